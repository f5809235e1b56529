-- What the mailboxes of a client become.
use Rattle.std.proofs.Common.{◌≡◌, ℕ, zero, suc, ◌<◌, ◌≤◌, Bool, true, false, cond, ltb, List, length, get_or, set, replicate, refl, ap, ◌∙◌, ap₂, inl, inr, arith}
use mathlib.Core.Path.{fun_ext}
use Rattle.std.proofs.lemmas.Bool.{cases_eq, cases_lt, eq-eqb, ne_eqb, lt-ltb, le-ltb}
use Rattle.code.specs.Meaning.{Meaning}
use Rattle.register.specs.Tables.{upd}
use Rattle.register.specs.Machine as machine
use Rattle.node.specs.declared.nodes.Node.{Node}
use Rattle.node.specs.Views.{node}
use Rattle.reads.specs.declared.rounds.Answers.{Answers}
use Rattle.reads.specs.Views.{past_nodes, got, shown, answer}
use Rattle.reads.proofs.Tables.{set_at}
use Rattle.segment.specs.declared.state.Mail.{Mail}
use Rattle.segment.specs.declared.state.Mail.TheVariants.{Empty, Waiting, Looked, Stored, Settled}
use Rattle.segment.specs.declared.state.Request.{Request}
use Rattle.segment.specs.declared.state.Post.{Post}
use Rattle.segment.specs.Views.{request, tag, mail_as, mails}
use Rattle.segment.specs.Waits.{is_waiting}

-- a list of copies, read within its length
replicated : {A : Type 0} (n : ℕ) (x d : A) (i : ℕ) → i < n → get_or (replicate n x) i d ≡ x
replicated zero x d i h = absurd (omega arith)
replicated (suc n) x d zero h = refl
replicated (suc n) x d (suc i) h = replicated n x d i (omega arith)

-- a new round: the request waits in each mailbox
pub asked : (m : Meaning) (q : Request) (a : Answers) → m.n ≤ 8 → got a ≡ machine.nobody
    → mails m (record { request = q; mails = replicate 8 Waiting; answers = a }) ≡ machine.posted m.n (request q)
asked m q a few e = fun_ext (λ i. elim (cases_lt i m.n) [
  | inl l ↦ rw (lt-ltb i m.n l)
      (ap₂ (λ b x. mail_as (request q) (shown m a i) (cond b Empty x)) (ap (λ g. g i) e) (replicated 8 Waiting Empty i (omega arith)))
  | inr l ↦ rw (le-ltb i m.n l)
])

-- an answer is fetched: its mailbox is empty
pub collected : (m : Meaning) (p : Post) (a : Answers) (i : ℕ) → i < m.n → got a ≡ upd (got p.answers) i true → a.nodes ≡ p.answers.nodes
    → mails m (record { request = p.request; mails = p.mails; answers = a }) ≡ upd (mails m p) i machine.empty
collected m p a i l e s = fun_ext (λ j.
    ap₂ (λ b (ns : List Node). cond (ltb j m.n) (mail_as (request p.request) (node m (get_or ns j past_nodes)) (cond b Empty (get_or p.mails j Empty))) machine.empty) (ap (λ g. g j) e) s
    ∙ elim (cases_eq i j) [
      | inl z ↦ rw (eq-eqb i j z) (either (ltb j m.n))
      | inr n ↦ rw (ne_eqb i j n)
    ])
  where
    either : (b : Bool) → cond b machine.empty machine.empty ≡ machine.empty
    either true = refl
    either false = refl

-- where a request waits the node was not fetched
pub waits_unfetched : (p : Post) (i : ℕ) → is_waiting (tag p i) ≡ true → (got p.answers i ≡ false) × (get_or p.mails i Empty ≡ Waiting)
waits_unfetched p i e = go (got p.answers i) (get_or p.mails i Empty) e
  where
    waiting : (x : Mail) → is_waiting x ≡ true → x ≡ Waiting
    waiting Waiting e = refl
    waiting Empty e = absurd (let z : ◌≡◌ {A = ℕ} 0 1 = cc in omega arith)
    waiting Looked e = absurd (let z : ◌≡◌ {A = ℕ} 0 1 = cc in omega arith)
    waiting Stored e = absurd (let z : ◌≡◌ {A = ℕ} 0 1 = cc in omega arith)
    waiting Settled e = absurd (let z : ◌≡◌ {A = ℕ} 0 1 = cc in omega arith)

    go : (b : Bool) (x : Mail) → is_waiting (cond b Empty x) ≡ true → (b ≡ false) × (x ≡ Waiting)
    go true x e = absurd (let z : ◌≡◌ {A = ℕ} 0 1 = cc in omega arith)
    go false x e = (refl, waiting x e)

module _ (m : Meaning) (p : Post) (i : ℕ) (new : Mail) (ns : List Node) where
  -- one mailbox changes, and with it what its node showed
  pub put_mail : i < m.n → i < length p.mails → got p.answers i ≡ false
      → ((j : ℕ) → (i ≡ j → ⊥) → get_or ns j past_nodes ≡ get_or p.answers.nodes j past_nodes)
      → mails m (record { request = p.request; mails = set p.mails i new; answers = record { fetched = p.answers.fetched; nodes = ns } })
      ≡ upd (mails m p) i (mail_as (request p.request) (node m (get_or ns i past_nodes)) new)
  put_mail l long un same = fun_ext (λ j.
      ap (λ x. cond (ltb j m.n) (mail_as (request p.request) (node m (get_or ns j past_nodes)) (cond (got p.answers j) Empty x)) machine.empty)
      (set_at p.mails i j new Empty long)
      ∙ elim (cases_eq i j) [
        | inl z ↦ rw (eq-eqb i j z, ← z, lt-ltb i m.n l, un)
        | inr n ↦ rw (ne_eqb i j n, same j n)
      ])

  -- the answers stay, since the node was not fetched
  pub same_answers : got p.answers i ≡ false → ((j : ℕ) → (i ≡ j → ⊥) → get_or ns j past_nodes ≡ get_or p.answers.nodes j past_nodes)
      → answer m (record { fetched = p.answers.fetched; nodes = ns }) ≡ answer m p.answers
  same_answers un same = fun_ext (λ j. elim (cases_eq i j) [
    | inl z ↦ rw (← z, un)
    | inr n ↦ rw (same j n)
  ])
