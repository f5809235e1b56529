-- What a round's answers are once one more node is fetched.
use Rattle.std.proofs.Common.{◌≡◌, ℕ, true, cond, sym, ap, ◌∙◌, inl, inr}
use mathlib.Core.Path.{fun_ext}
use Rattle.std.proofs.lemmas.Bool.{cases_eq, eq-eqb, ne_eqb}
use Rattle.code.specs.Meaning.{Meaning}
use Rattle.register.specs.Tables.{upd}
use Rattle.register.specs.Machine.{no_answers}
use Rattle.reads.specs.declared.rounds.Answers.{Answers}
use Rattle.reads.specs.Views.{bit_of, got, shown, answer}

-- the answers go by the byte alone, where the nodes showed the same
pub marked : (m : Meaning) (a : Answers) (byte i : ℕ) → bit_of byte ≡ upd (got a) i true
    → answer m (record { fetched = byte; nodes = a.nodes }) ≡ upd (answer m a) i (shown m a i)
marked m a byte i e = fun_ext (λ j. ap (λ g. cond (g j) (shown m a j) (no_answers j)) e ∙ at j)
  where
    at : (j : ℕ) → cond (upd (got a) i true j) (shown m a j) (no_answers j) ≡ upd (answer m a) i (shown m a i) j
    at j = elim (cases_eq i j) [ inl z ↦ rw (eq-eqb i j z) (ap (shown m a) (sym z)) | inr n ↦ rw (ne_eqb i j n) ]
