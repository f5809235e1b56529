-- Which turn a fetch is, by the client's phase and the tag of the mailbox.
use Rattle.std.proofs.Common.{◌≡◌, ℕ, ◌<◌, Bool, true, false, Ok, Option, sym, refl, ap, ◌∙◌, subst, arith}
use Rattle.std.proofs.lemmas.Bool.{lt-ltb}
use Rattle.code.specs.Meaning.{Meaning}
use Rattle.record.specs.declared.fields.Record.{Record}
use Rattle.register.specs.Tables.{upd}
use Rattle.register.specs.Nodes as register
use Rattle.register.specs.Machine as machine
use Rattle.node.specs.Stamped.{stamp}
use Rattle.reads.specs.Views.{got, shown, answer}
use Rattle.segment.specs.declared.state.Mail.{Mail}
use Rattle.segment.specs.declared.state.Mail.TheVariants.{Empty, Waiting, Looked, Stored, Settled}
use Rattle.segment.specs.declared.state.Phase.{Phase}
use Rattle.segment.specs.declared.state.Phase.TheVariants.{Off, Idle, WriteLook, WriteStore, WriteSettle, ReadLook}
use Rattle.segment.specs.declared.state.Fetched.{Fetched}
use Rattle.segment.specs.declared.state.Fetched.TheVariants.{Kept, NextRound, Wrote, Read, Ended}
use Rattle.segment.specs.declared.state.Entry.{Entry}
use Rattle.segment.specs.Views.{request, tag, mail_as, mails, last, client_as, client}
use Rattle.segment.specs.Told.{Told, no, plain, fetched, place_after, WritesNothing, Turned}

-- the answer that an open operation waits for
abbrev pub expects : Phase → Mail → Bool
expects Off y = true
expects Idle y = true
expects WriteLook Empty = false
expects WriteLook Waiting = false
expects WriteLook Looked = true
expects WriteLook Stored = false
expects WriteLook Settled = false
expects WriteStore Empty = false
expects WriteStore Waiting = false
expects WriteStore Looked = false
expects WriteStore Stored = true
expects WriteStore Settled = false
expects WriteSettle Empty = false
expects WriteSettle Waiting = false
expects WriteSettle Looked = false
expects WriteSettle Stored = false
expects WriteSettle Settled = true
expects ReadLook Empty = false
expects ReadLook Waiting = false
expects ReadLook Looked = true
expects ReadLook Stored = false
expects ReadLook Settled = false

-- an open operation's turn, by what is in the mailbox
opened : (m : Meaning) (c i : ℕ) (l : Option register.Bytes) (o : machine.Open) (M : ℕ → machine.Mail) (z : machine.Mail) → M i ≡ z
    → machine.fetch_turn m c i (machine.busy l o) M ≡ machine.mail_turn m c i M l o z
unfolding machine.fetch_turn
opened m c i l o M z e = ap (machine.mail_turn m c i M l o) e

-- an answer that the operation does not wait for, or none, is refused
other_turn : (m : Meaning) (c i : ℕ) (x : Entry) (M : ℕ → machine.Mail) (q : machine.Request) (a : register.Node) (h : Phase) (y : Mail)
    → M i ≡ mail_as q a y → expects h y ≡ false
    → machine.fetch_turn m c i (client_as m x h) M ≡ machine.refuses 16 (client_as m x h) M
other_turn m c i x M q a Off y e w = absurd (let z : ◌≡◌ {A = ℕ} 0 1 = cc in omega arith)
other_turn m c i x M q a Idle y e w = absurd (let z : ◌≡◌ {A = ℕ} 0 1 = cc in omega arith)
other_turn m c i x M q a WriteLook Empty e w = opened m c i _ _ M _ e
other_turn m c i x M q a WriteLook Waiting e w = opened m c i _ _ M _ e
other_turn m c i x M q a WriteLook Looked e w = absurd (let z : ◌≡◌ {A = ℕ} 0 1 = cc in omega arith)
other_turn m c i x M q a WriteLook Stored e w = opened m c i _ _ M _ e
other_turn m c i x M q a WriteLook Settled e w = opened m c i _ _ M _ e
other_turn m c i x M q a WriteStore Empty e w = opened m c i _ _ M _ e
other_turn m c i x M q a WriteStore Waiting e w = opened m c i _ _ M _ e
other_turn m c i x M q a WriteStore Looked e w = opened m c i _ _ M _ e
other_turn m c i x M q a WriteStore Stored e w = absurd (let z : ◌≡◌ {A = ℕ} 0 1 = cc in omega arith)
other_turn m c i x M q a WriteStore Settled e w = opened m c i _ _ M _ e
other_turn m c i x M q a WriteSettle Empty e w = opened m c i _ _ M _ e
other_turn m c i x M q a WriteSettle Waiting e w = opened m c i _ _ M _ e
other_turn m c i x M q a WriteSettle Looked e w = opened m c i _ _ M _ e
other_turn m c i x M q a WriteSettle Stored e w = opened m c i _ _ M _ e
other_turn m c i x M q a WriteSettle Settled e w = absurd (let z : ◌≡◌ {A = ℕ} 0 1 = cc in omega arith)
other_turn m c i x M q a ReadLook Empty e w = opened m c i _ _ M _ e
other_turn m c i x M q a ReadLook Waiting e w = opened m c i _ _ M _ e
other_turn m c i x M q a ReadLook Looked e w = absurd (let z : ◌≡◌ {A = ℕ} 0 1 = cc in omega arith)
other_turn m c i x M q a ReadLook Stored e w = opened m c i _ _ M _ e
other_turn m c i x M q a ReadLook Settled e w = opened m c i _ _ M _ e

-- an answer without a record leaves the place
pub place_stays : (f : Fetched) (p : Record) (old : register.Bytes) → WritesNothing f → old ≡ place_after (fetched (Ok f) p) old
place_stays Kept p old w = refl
place_stays NextRound p old w = refl
place_stays (Wrote s) p old w = refl
place_stays (Read r) p old w = absurd w
place_stays (Ended e) p old w = refl

module _ (m : Meaning) (c i : ℕ) (x : Entry) (inside : i < m.n) where
  -- what the fetch does
  abbrev pub turn : machine.Turn
  turn = machine.fetch_turn m c i (client m x) (mails m x.post)

  -- the mailbox by its tag
  mail_is : (y : Mail) → tag x.post i ≡ y → mails m x.post i ≡ mail_as (request x.post.request) (shown m x.post.answers i) y
  mail_is y e = rw (lt-ltb i m.n inside) (ap (mail_as (request x.post.request) (shown m x.post.answers i)) e)

  -- a refused turn leaves the entry as it is
  refused : (e : ℕ) → turn ≡ machine.refuses e (client m x) (mails m x.post) → Turned m x (no e) turn
  refused e h = record { client = sym (ap (λ t. t.client) h); mail = sym (ap (λ t. t.mail) h); outcome = sym (ap (λ t. plain t.outcome) h) }

  -- the turn at a known phase
  at_phase : (h : Phase) → x.phase ≡ h → turn ≡ machine.fetch_turn m c i (client_as m x h) (mails m x.post)
  at_phase h e = ap (λ k. machine.fetch_turn m c i (client_as m x k) (mails m x.post)) e

  refused_at : (e : ℕ) (h : Phase) → x.phase ≡ h → machine.fetch_turn m c i (client_as m x h) (mails m x.post) ≡ machine.refuses e (client_as m x h) (mails m x.post)
      → Turned m x (no e) turn
  refused_at e h k r = refused e (at_phase h k ∙ r ∙ sym (ap (λ j. machine.refuses e (client_as m x j) (mails m x.post)) k))

  pub when_off : x.phase ≡ Off → Turned m x (no 11) turn
  unfolding machine.fetch_turn
  when_off e = refused_at 11 Off e refl

  pub when_idle : x.phase ≡ Idle → Turned m x (no 15) turn
  unfolding machine.fetch_turn
  when_idle e = refused_at 15 Idle e refl

  pub when_other : expects x.phase (tag x.post i) ≡ false → Turned m x (no 16) turn
  when_other w = refused_at 16 x.phase refl (other_turn m c i x (mails m x.post) (request x.post.request) (shown m x.post.answers i) x.phase (tag x.post i) (mail_is (tag x.post i) refl) w)

  -- a turn that is another by an equation
  by_turn : (y : Entry) (o : Told) (t : machine.Turn) → turn ≡ t → Turned m y o t → Turned m y o turn
  by_turn y o t e h = subst (Turned m y o) (sym e) h

  pub when_write_look : (y : Entry) (o : Told) → x.phase ≡ WriteLook → tag x.post i ≡ Looked
      → Turned m y o (machine.write_look_turn m c i (mails m x.post) (last x.last) x.post.request.whole (upd (got x.post.answers) i true) (upd (answer m x.post.answers) i (shown m x.post.answers i)))
      → Turned m y o turn
  when_write_look y o h t = by_turn y o _ (at_phase WriteLook h ∙ opened m c i _ _ (mails m x.post) _ (mail_is Looked t))

  pub when_write_store : (y : Entry) (o : Told) → x.phase ≡ WriteStore → tag x.post i ≡ Stored
      → Turned m y o (machine.store_turn m c i (mails m x.post) (last x.last) x.post.request.whole (stamp x.post.request.stamp) (stamp x.post.request.floor) (upd (got x.post.answers) i true))
      → Turned m y o turn
  when_write_store y o h t = by_turn y o _ (at_phase WriteStore h ∙ opened m c i _ _ (mails m x.post) _ (mail_is Stored t))

  pub when_write_settle : (y : Entry) (o : Told) → x.phase ≡ WriteSettle → tag x.post i ≡ Settled
      → Turned m y o (machine.settle_turn m c i (mails m x.post) (last x.last) x.post.request.whole (stamp x.post.request.stamp) (upd (got x.post.answers) i true))
      → Turned m y o turn
  when_write_settle y o h t = by_turn y o _ (at_phase WriteSettle h ∙ opened m c i _ _ (mails m x.post) _ (mail_is Settled t))

  pub when_read : (y : Entry) (o : Told) → x.phase ≡ ReadLook → tag x.post i ≡ Looked
      → Turned m y o (machine.read_look_turn m c i (mails m x.post) (last x.last) x.rounds.allowed x.rounds.used (upd (got x.post.answers) i true) (upd (answer m x.post.answers) i (shown m x.post.answers i)))
      → Turned m y o turn
  when_read y o h t = by_turn y o _ (at_phase ReadLook h ∙ opened m c i _ _ (mails m x.post) _ (mail_is Looked t))
