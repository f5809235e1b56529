-- Which requests wait, in memory and in the register.
use Rattle.std.proofs.Common.{◌≡◌, ℕ, ◌<◌, min, false, refl, ◌∙◌, inl, inr}
use Rattle.std.proofs.lemmas.Bool.{cases_lt, lt-ltb, le-ltb}
use Rattle.code.specs.Meaning.{Meaning}
use Rattle.register.specs.Nodes as register
use Rattle.register.specs.Machine as machine
use Rattle.reads.specs.Views.{shown}
use Rattle.segment.specs.declared.state.Mail.{Mail}
use Rattle.segment.specs.declared.state.Mail.TheVariants.{Empty, Waiting, Looked, Stored, Settled}
use Rattle.segment.specs.declared.state.State.{State}
use Rattle.segment.specs.Views.{request, tag, mail_as, entry, view_of}
use Rattle.segment.specs.Waits.{is_waiting}

by_tag : (q : machine.Request) (a : register.Node) (y : Mail) → machine.is_waiting (mail_as q a y) ≡ is_waiting y
by_tag q a Empty = refl
by_tag q a Waiting = refl
by_tag q a Looked = refl
by_tag q a Stored = refl
by_tag q a Settled = refl

module _ (m : Meaning) (s : State) (c i : ℕ) where
  -- a request of a client that is laid out, at a node that is there
  pub waits_there : c < min s.clients 8 → i < m.n → machine.waits m (view_of m s) c i ≡ is_waiting (tag (entry s c).post i)
  waits_there l k = rw (lt-ltb c (min s.clients 8) l, lt-ltb i m.n k) (by_tag (request (entry s c).post.request) (shown m (entry s c).post.answers i) (tag (entry s c).post i))

  -- nothing waits where no tag says so
  pub waits_nowhere : (c < min s.clients 8 → i < m.n → is_waiting (tag (entry s c).post i) ≡ false) → machine.waits m (view_of m s) c i ≡ false
  waits_nowhere h = elim (cases_lt c (min s.clients 8)) [
    | inl l ↦ elim (cases_lt i m.n) [
      | inl k ↦ waits_there l k ∙ h l k
      | inr k ↦ rw (lt-ltb c (min s.clients 8) l, le-ltb i m.n k)
    ]
    | inr l ↦ rw (le-ltb c (min s.clients 8) l)
  ]
