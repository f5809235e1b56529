-- A list changed at one place, as a table.
use Rattle.std.proofs.Common.{◌≡◌, ℕ, zero, suc, ◌<◌, Bool, true, false, cond, eqb, List, [], ◌∷◌, length, get_or, set, sym, refl, ap, ◌∙◌, inl, inr, arith}
use mathlib.Core.Path.{fun_ext}
use lib.Dec.{eqb-zero-suc, eqb-suc-zero, eqb-suc-suc}
use Rattle.std.proofs.lemmas.Bool.{cases_eq, eq-eqb, ne_eqb}
use Rattle.register.specs.Tables.{upd}

-- what stands at j after a change at i
pub set_at : {A : Type 0} (xs : List A) (i j : ℕ) (v d : A) → i < length xs → get_or (set xs i v) j d ≡ cond (eqb i j) v (get_or xs j d)
set_at [] i j v d h = absurd (omega arith)
set_at (x ∷ xs) zero zero v d h = refl
set_at (x ∷ xs) zero (suc j) v d h = rw (eqb-zero-suc j)
set_at (x ∷ xs) (suc i) zero v d h = rw (eqb-suc-zero i)
set_at (x ∷ xs) (suc i) (suc j) v d h = rw (eqb-suc-suc i j) (set_at xs i j v d (omega arith))

-- a function goes through a choice
pub through : {A B : Type 0} (g : A → B) (b : Bool) (x y : A) → g (cond b x y) ≡ cond b (g x) (g y)
through g true x y = refl
through g false x y = refl

-- the same of what g makes of the elements
pub set_table : {A B : Type 0} (g : A → B) (xs : List A) (i : ℕ) (v d : A) → i < length xs
    → ◌≡◌ {A = ℕ → B} (λ j. g (get_or (set xs i v) j d)) (upd (λ j. g (get_or xs j d)) i (g v))
set_table g xs i v d h = fun_ext (λ j. ap g (set_at xs i j v d h) ∙ through g (eqb i j) v (get_or xs j d))

-- putting in what is there already changes nothing
pub upd_same : {A : Type 0} (g : ℕ → A) (i : ℕ) (x : A) → g i ≡ x → upd g i x ≡ g
upd_same g i x e = fun_ext (λ j. elim (cases_eq i j) [ inl z ↦ rw (eq-eqb i j z) (sym e ∙ ap g z) | inr n ↦ rw (ne_eqb i j n) ])
