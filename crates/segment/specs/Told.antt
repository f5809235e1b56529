-- What the calls of a segment tell their callers.
use Rattle.std.specs.Prelude.{◌≡◌, ℕ, Bool, true, false, Ok, Err, Result}
use Rattle.code.specs.Meaning.{Meaning}
use Rattle.record.specs.Layout.{layout}
use Rattle.record.specs.declared.fields.Record.{Record}
use Rattle.register.specs.Tables.{upd}
use Rattle.register.specs.Stamps as stamps
use Rattle.register.specs.Nodes as register
use Rattle.register.specs.Reading.{Rebuilt}
use Rattle.register.specs.Machine as machine
use Rattle.node.specs.declared.nodes.Node.{Node}
use Rattle.node.specs.Stamped.{stamp}
use Rattle.node.specs.Views.{node}
use Rattle.segment.specs.declared.refusals.Refusal.{Refusal}
use Rattle.segment.specs.declared.state.Round.{Round}
use Rattle.segment.specs.declared.state.Round.TheVariants.{Look, Store, Settle}
use Rattle.segment.specs.declared.state.Sight.{Sight}
use Rattle.segment.specs.declared.state.Sight.TheVariants.{New, Same}
use Rattle.segment.specs.declared.state.Fetched.{Fetched}
use Rattle.segment.specs.declared.state.Fetched.TheVariants.{Kept, NextRound, Wrote, Read, Ended}
use Rattle.segment.specs.declared.state.Waiting.{Waiting}
use Rattle.segment.specs.declared.state.Entry.{Entry}
use Rattle.segment.specs.Refusals.{refusal, ending}
use Rattle.segment.specs.Views.{mails, client}

-- What a caller is told.
pub data Told : Type 0 where
  -- the call was refused, by this number
  no : ℕ → Told
  -- it was done
  done : Told
  -- a node carried out the request of such a round
  carried : Round → Told
  -- an answer was kept
  kept : Told
  -- the round closed and the next one began
  next_round : Told
  -- a write ended under its stamp
  wrote : stamps.Stamp → Told
  -- a read ended: the rounds opened, the record under its stamp, and whether it is the same as the last one found
  gave : ℕ → Rebuilt → Bool → Told
  -- an operation ended with this ending
  ended : ℕ → Told

-- The round of a request.
abbrev pub round_of : machine.Request → Round
round_of machine.look = Look
round_of (machine.storing s F r) = Store
round_of (machine.settling s) = Settle

-- What is told of an outcome. A stamp that a write has just got is not told, nor what a request asks.
abbrev pub plain : machine.Outcome → Told
plain (machine.refused e) = no e
plain machine.done = done
plain (machine.taken q) = carried (round_of q)
plain machine.kept = kept
plain machine.round = next_round
plain (machine.stamped s) = next_round
plain (machine.wrote s) = wrote s
plain (machine.found u x b) = gave u x b
plain (machine.ended e) = ended e

-- A sign-on, a sign-off or a begin.
abbrev pub did : Result (Unit {0}) Refusal → Told
did (Ok u) = done
did (Err e) = no (refusal e)

-- A take.
abbrev pub took : Result Round Refusal → Told
took (Ok r) = carried r
took (Err e) = no (refusal e)

abbrev pub is_same : Sight → Bool
is_same New = false
is_same Same = true

-- A fetch: a record that was found is the one in the place.
abbrev pub fetched : Result Fetched Refusal → Record → Told
fetched (Err e) place = no (refusal e)
fetched (Ok Kept) place = kept
fetched (Ok NextRound) place = next_round
fetched (Ok (Wrote s)) place = wrote (stamp s)
fetched (Ok (Read x)) place = gave x.rounds (record { stamp = stamp x.stamp; bytes = layout place }) (is_same x.sight)
fetched (Ok (Ended e)) place = ended (ending e)

-- The bytes in the place of a fetch after it: those of a record that was given, and else the old ones.
abbrev pub place_after : Told → register.Bytes → register.Bytes
place_after (no e) old = old
place_after done old = old
place_after (carried r) old = old
place_after kept old = old
place_after next_round old = old
place_after (wrote s) old = old
place_after (gave u x b) old = x.bytes
place_after (ended e) old = old

-- The answer of a fetch that gives no record.
abbrev pub WritesNothing : Fetched → Type 0
WritesNothing Kept = Unit {0}
WritesNothing NextRound = Unit {0}
WritesNothing (Wrote s) = Unit {0}
WritesNothing (Read x) = ⊥
WritesNothing (Ended e) = Unit {0}

-- The bytes held.
abbrev pub counted : Result ℕ Refusal → Result ℕ ℕ
counted (Ok n) = Ok n
counted (Err e) = Err (refusal e)

-- A waiting pair.
abbrev pub named : Result Waiting Refusal → Result machine.Pair ℕ
named (Ok p) = Ok (record { client = p.client; node = p.node })
named (Err e) = Err (refusal e)

-- The entry x is what the turn t leaves, and o is what is told of it.
pub record Turned (m : Meaning) (x : Entry) (o : Told) (t : machine.Turn) : Type 0 where
  pub client : client m x ≡ t.client
  pub mail : mails m x.post ≡ t.mail
  pub outcome : o ≡ plain t.outcome

-- The entry x, which was y, and the node a are what the visit v to node i leaves, and o is what is told of it.
pub record Visited (m : Meaning) (i : ℕ) (y x : Entry) (a : Node) (o : Told) (v : machine.Visit) : Type 0 where
  pub node : node m a ≡ v.node
  pub mail : mails m x.post ≡ upd (mails m y.post) i v.mail
  pub client : client m x ≡ client m y
  pub outcome : o ≡ plain v.outcome
