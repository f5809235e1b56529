-- A segment just laid out.
use Rattle.std.proofs.Common.{◌≡◌, ℕ, zero, suc, ◌^◌, ◌<◌, ◌≤◌, min, Bool, true, false, cond, ltb, List, [], ◌∷◌, get_or, replicate, None, sym, refl, ap, ◌∙◌, subst, ap₂, inl, inr, arith}
use mathlib.Core.Path.{fun_ext}
use Rattle.std.proofs.lemmas.Bool.{cases_lt, lt-ltb, le-ltb}
use Rattle.code.specs.Meaning.{Meaning, Lawful}
use Rattle.record.specs.declared.fields.Record.{Record}
use Rattle.record.specs.Layout.{layout}
use Rattle.record.proofs.Whole.{layout_long, layout_small, layout_lies}
use Rattle.register.specs.Nodes as register
use Rattle.register.specs.Machine as machine
use Rattle.register.specs.Promises.{ARecord, SafeFrom}
use Rattle.register.proofs.Whole.{safe}
use Rattle.node.specs.Views.{node}
use Rattle.reads.specs.Views.{past_nodes, got, shown}
use Rattle.segment.specs.declared.state.Mail.{Mail}
use Rattle.segment.specs.declared.state.Mail.TheVariants.{Empty}
use Rattle.segment.specs.declared.state.Phase.TheVariants.{Off}
use Rattle.segment.specs.declared.state.Post.{Post}
use Rattle.segment.specs.declared.state.Entry.{Entry}
use Rattle.segment.specs.declared.state.State.{State}
use Rattle.segment.specs.Views.{request, mail_as, mails, client_as, client, no_entry, view_of}

-- what holds of an element and of the default holds wherever a list of copies is read
copies : {A : Type 0} (P : A → Type 0) (n : ℕ) (x d : A) (i : ℕ) → P x → P d → P (get_or (replicate n x) i d)
copies P zero x d i p q = q
copies P (suc n) x d zero p q = p
copies P (suc n) x d (suc i) p q = copies P n x d i p q

-- empty tags are empty mailboxes
empty_mails : (m : Meaning) (p : Post) → ((i : ℕ) → get_or p.mails i Empty ≡ Empty) → mails m p ≡ (λ i. machine.empty)
empty_mails m p e = fun_ext (λ i. ap (λ x. cond (ltb i m.n) (mail_as (request p.request) (shown m p.answers i) (cond (got p.answers i) Empty x)) machine.empty) (e i) ∙ go (ltb i m.n) (got p.answers i) (request p.request) (shown m p.answers i))
  where
    go : (b d : Bool) (q : machine.Request) (a : register.Node) → cond b (mail_as q a (cond d Empty Empty)) machine.empty ≡ machine.empty
    go true true q a = refl
    go true false q a = refl
    go false d q a = refl

module _ (m : Meaning) (clients count : ℕ) (r : register.Bytes) (s : State) (x : Entry) where
  pub laid_view : s.clients ≡ clients → clients ≤ 8 → s.table.entries ≡ replicate 8 x → x.phase ≡ Off → x.post.mails ≡ replicate 8 Empty
      → ((j : ℕ) → j < m.n → node m (get_or s.nodes j past_nodes) ≡ record { floor = record { count = count; client = 0 }; shelf = record { stamp = record { count = count; client = 0 }; bytes = m.piece r j } ∷ []; spare = register.free })
      → view_of m s ≡ machine.laid_out m clients count r
  unfolding machine.laid_out
  laid_view k few all off none each =
      let number : min s.clients 8 ≡ clients = omega arith in
      ap₂ (λ n a. record { clients = n; node = a; mail = (view_of m s).mail; client = (view_of m s).client }) number
      (fun_ext (λ j. elim (cases_lt j m.n) [ inl l ↦ rw (lt-ltb j m.n l) (each j l) | inr l ↦ rw (le-ltb j m.n l) ]))
      ∙ ap₂ (λ u v. record { clients = clients; node = (machine.laid_out m clients count r).node; mail = u; client = v })
      (fun_ext (λ c. ap (λ (es : List Entry). mails m (get_or es c no_entry).post) all
      ∙ copies (λ e. mails m e.post ≡ (λ i. machine.empty)) 8 x no_entry c
      (empty_mails m x.post (λ i. ap (λ (ys : List Mail). get_or ys i Empty) none ∙ copies (λ y. y ≡ Empty) 8 Empty Empty i refl refl))
      (empty_mails m no_entry.post (λ i. refl))))
      (fun_ext (λ c. ap (λ (es : List Entry). client m (get_or es c no_entry)) all
      ∙ copies (λ e. client m e ≡ machine.off) 8 x no_entry c (ap (client_as m x) off) refl))

-- the bytes of a record are what the promises ask of a first record
pub a_record : (r : Record) → r.parameter < 2 ^ 16 → ARecord (layout r)
a_record r h = record { sized = record { long = layout_long r; small = layout_small r h }; lies = layout_lies r }

-- from a segment that is laid out every list of calls keeps the promises
pub safe_view : (m : Meaning) → Lawful m → (clients count : ℕ) (r : register.Bytes) (σ : machine.Segment) → ARecord r → machine.lay_out_refusal clients count ≡ None
    → σ ≡ machine.laid_out m clients count r → SafeFrom m count r σ
safe_view m L clients count r σ proper e h = subst (SafeFrom m count r) (sym h) (safe m L clients count r e proper)
