-- The history of a list of calls, read off the calls and what they answered.
use Rattle.std.specs.Prelude.{◌≡◌, ℕ, suc, Bool, true, false, ◌&&◌, List, [], ◌∷◌, Some as some, None as none, Option, nat_le, nat_lt}
use Rattle.code.specs.Meaning.{Meaning}
use Rattle.register.specs.Tables.{upd}
use Rattle.register.specs.Stamps.{Stamp}
use Rattle.register.specs.Nodes.{Bytes}
use Rattle.register.specs.Reading.{Rebuilt}
use Rattle.register.specs.Machine.{Segment, Call, sign_on, sign_off, begin_write, begin_read, take, fetch, Outcome, refused, done, taken, kept, round, stamped, wrote, found, ended, step}

-- A call and what it answered.
pub record Entry : Type 0 where
  pub call : Call
  pub outcome : Outcome

-- The segment after a list of calls.
abbrev pub after : Meaning → Segment → List Call → Segment
after m σ [] = σ
after m σ (x ∷ xs) = after m (step m x σ).after xs

-- What a list of calls answered.
abbrev pub entries : Meaning → Segment → List Call → List Entry
entries m σ [] = []
entries m σ (x ∷ xs) = record { call = x; outcome = (step m x σ).outcome } ∷ entries m (step m x σ).after xs

-- How far a write has come; places are those of its list.
pub data Write : Type 0 where
  -- it is open, without a stamp
  unstamped : Write
  -- it is open, with its stamp
  stamped_as : Stamp → Write
  -- it ended under its stamp, at a place
  ended_as : Stamp → ℕ → Write
  -- it ended without a stamp, at a place
  failed : ℕ → Write

-- How far a read has come.
pub data Read : Type 0 where
  -- it is open
  reading : Read
  -- it gave a record under its stamp, at a place
  gave : Rebuilt → ℕ → Read
  -- it ended without one, at a place
  gave_up : ℕ → Read

-- What began at a place: nothing, or a client's write of a record, or a client's read.
pub data Operation : Type 0 where
  nothing : Operation
  a_write : ℕ → Bytes → Write → Operation
  a_read : ℕ → Read → Operation

-- The history of a list.
pub record History : Type 0 where
  -- the place of the next entry
  pub next : ℕ
  -- what began at each place
  pub began : ℕ → Operation
  -- where each client's latest operation began
  pub latest : ℕ → ℕ

-- The first record stands at place 0, as a write that ended there under its stamp; the list has the places from 1 on.
abbrev pub start : ℕ → Bytes → History
start count r = record {
  next = 1;
  began = upd (λ _. nothing) 0 (a_write 0 r (ended_as (record { count = count; client = 0 }) 0));
  latest = λ _. 0;
}

-- What the outcome of a fetch at place p makes of its client's write.
abbrev pub write_on : ℕ → Outcome → Write → Write
write_on p (refused e) x = x
write_on p done x = x
write_on p (taken q) x = x
write_on p kept x = x
write_on p round x = x
write_on p (stamped s) x = stamped_as s
write_on p (wrote s) x = ended_as s p
write_on p (found u y b) x = x
write_on p (ended e) x = failed p

-- What it makes of a read.
abbrev pub read_on : ℕ → Outcome → Read → Read
read_on p (refused e) x = x
read_on p done x = x
read_on p (taken q) x = x
read_on p kept x = x
read_on p round x = x
read_on p (stamped s) x = x
read_on p (wrote s) x = x
read_on p (found u y b) x = gave y p
read_on p (ended e) x = gave_up p

-- What it makes of an operation.
abbrev pub moved : ℕ → Outcome → Operation → Operation
moved p o nothing = nothing
moved p o (a_write c r x) = a_write c r (write_on p o x)
moved p o (a_read c x) = a_read c (read_on p o x)

-- A begin was accepted.
abbrev pub is_done : Outcome → Bool
is_done (refused e) = false
is_done done = true
is_done (taken q) = false
is_done kept = false
is_done round = false
is_done (stamped s) = false
is_done (wrote s) = false
is_done (found u y b) = false
is_done (ended e) = false

-- One more entry that begins and ends nothing.
abbrev pub passed : History → History
passed h = record { next = suc h.next; began = h.began; latest = h.latest }

-- A begin by client c adds the operation o at its place, if it was accepted.
abbrev pub begun : ℕ → Operation → Bool → History → History
begun c o true h = record { next = suc h.next; began = upd h.began h.next o; latest = upd h.latest c h.next }
begun c o false h = passed h

-- The history with one more entry: a begin adds an operation, a fetch moves the client's latest one on.
abbrev pub noted : Call → Outcome → History → History
noted (sign_on c) o h = passed h
noted (sign_off c) o h = passed h
noted (begin_write c r) o h = begun c (a_write c r unstamped) (is_done o) h
noted (begin_read c allowed) o h = begun c (a_read c reading) (is_done o) h
noted (take c i) o h = passed h
noted (fetch c i) o h = record {
  next = suc h.next;
  began = upd h.began (h.latest c) (moved h.next o (h.began (h.latest c)));
  latest = h.latest;
}

-- The history with the entries of a list.
abbrev pub history : History → List Entry → History
history h [] = h
history h (e ∷ es) = history (noted e.call e.outcome h) es

-- The stamp of an operation: that of a stamped write.
abbrev pub stamp_of : Operation → Option Stamp
stamp_of nothing = none
stamp_of (a_write c r unstamped) = none
stamp_of (a_write c r (stamped_as s)) = some s
stamp_of (a_write c r (ended_as s e)) = some s
stamp_of (a_write c r (failed e)) = none
stamp_of (a_read c x) = none

-- The record of a write.
abbrev pub bytes_of : Operation → Bytes
bytes_of nothing = []
bytes_of (a_write c r x) = r
bytes_of (a_read c x) = []

-- What began at place q is a write that is open after the entry at place p: from its begin to its end.
abbrev pub open_after : ℕ → ℕ → Operation → Bool
open_after p q nothing = false
open_after p q (a_write c r unstamped) = nat_le q p
open_after p q (a_write c r (stamped_as s)) = nat_le q p
open_after p q (a_write c r (ended_as s e)) = nat_le q p && nat_lt p e
open_after p q (a_write c r (failed e)) = nat_le q p && nat_lt p e
open_after p q (a_read c x) = false

-- The operation is a write that ended under s at place e.
abbrev pub Ended : Operation → Stamp → ℕ → Type 0
Ended o s e = (c : ℕ) × ((r : Bytes) × (o ≡ a_write c r (ended_as s e)))

-- The operation is a read that found x, at place e.
abbrev pub Gave : Operation → Rebuilt → ℕ → Type 0
Gave o x e = (c : ℕ) × (o ≡ a_read c (gave x e))

-- x is all the bytes of the write that began at q, or of the first record, under its own stamp.
abbrev pub From : History → ℕ → Rebuilt → Type 0
From h q x = (stamp_of (h.began q) ≡ some x.stamp) × (bytes_of (h.began q) ≡ x.bytes)
