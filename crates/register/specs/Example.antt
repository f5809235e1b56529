-- A worked list of calls on three copies: a read that finds the first record, and a write that ends.
use Rattle.std.specs.Prelude.{◌≡◌, ℕ, false, List, [], ◌∷◌, ◌++◌, replicate, None as none, Ok}
use Rattle.code.specs.Meaning.{Meaning, Lawful}
use Rattle.code.specs.Copies.{copies}
use Rattle.register.specs.Nodes.{Bytes}
use Rattle.register.specs.Reading.{Rebuilt}
use Rattle.register.specs.Machine.{Segment, look, storing, settling, Call, sign_on, sign_off, begin_write, begin_read, take, fetch, Outcome, refused, done, taken, kept, round, stamped, wrote, found, lay_out_refusal, laid_out, held}
use Rattle.register.specs.History.{Entry, History, start, history, entries, after, a_write, ended_as, a_read, gave}
use Rattle.register.specs.Promises.{ARecord, Proper}

-- Parameter 7, in bar, named oven, with the exponent byte e and the number 50.
abbrev pub oven : ℕ → Bytes
oven e = 0 ∷ 7 ∷ 2 ∷ e ∷ 111 ∷ 118 ∷ 101 ∷ 110 ∷ (replicate 12 32 ++ (0 ∷ 0 ∷ 0 ∷ 50 ∷ []))

-- The first record, under its stamp: the exponent is -1.
abbrev pub first : Rebuilt
first = record { stamp = record { count = 0; client = 0 }; bytes = oven 255 }

-- The record written, under the stamp that it gets: the exponent is 0.
abbrev pub second : Rebuilt
second = record { stamp = record { count = 1; client = 0 }; bytes = oven 0 }

-- Three copies.
abbrev pub three : Meaning
three = copies 1

-- Three nodes and one client, just laid out.
abbrev pub laid : Segment
laid = laid_out three 1 0 first.bytes

-- A read, and a write up to the first Store taken.
abbrev pub opening : List Call
opening =
    sign_on 0 ∷ begin_read 0 2 ∷ take 0 1 ∷ take 0 2 ∷ fetch 0 1 ∷ fetch 0 2
    ∷ begin_write 0 second.bytes ∷ fetch 0 0 ∷ take 0 0 ∷ take 0 1 ∷ fetch 0 0 ∷ fetch 0 1 ∷ take 0 0 ∷ []

-- Up to the last Settle that the write needs.
abbrev pub middle : List Call
middle = take 0 2 ∷ fetch 0 0 ∷ fetch 0 2 ∷ take 0 0 ∷ take 0 2 ∷ []

-- The end of the write, the sign-off, and a Settle taken after it.
abbrev pub ending : List Call
ending = fetch 0 0 ∷ fetch 0 2 ∷ sign_off 0 ∷ take 0 1 ∷ []

-- All these calls.
abbrev pub calls : List Call
calls = opening ++ (middle ++ ending)

-- What they answer.
abbrev pub answers : List Outcome
answers =
    done ∷ done ∷ taken look ∷ taken look ∷ kept ∷ found 1 first false
    ∷ done ∷ refused 16 ∷ taken look ∷ taken look ∷ kept ∷ stamped second.stamp ∷ taken (storing second.stamp first.stamp second.bytes)
    ∷ taken (storing second.stamp first.stamp second.bytes) ∷ kept ∷ round ∷ taken (settling second.stamp) ∷ taken (settling second.stamp)
    ∷ kept ∷ wrote second.stamp ∷ done ∷ taken (settling second.stamp) ∷ []

-- The outcomes of some entries.
abbrev pub outcomes : List Entry → List Outcome
outcomes [] = []
outcomes (e ∷ es) = e.outcome ∷ outcomes es

-- The history of the calls.
abbrev pub past : History
past = history (start 0 first.bytes) (entries three laid calls)

-- The example meets every premise of the promises, and has what they speak of.
pub record Worked : Type 0 where
  -- three copies are a lawful code
  pub lawful : Lawful three
  -- laying out accepts its clients, its count and its record
  pub accepted : lay_out_refusal 1 0 ≡ none
  pub given : ARecord first.bytes
  -- the calls hand over records only
  pub proper : Proper calls
  -- they answer as listed
  pub told : outcomes (entries three laid calls) ≡ answers
  -- the read that began at place 2 found the first record, at place 6
  pub read : past.began 2 ≡ a_read 0 (gave first 6)
  -- the write that began at place 7 ended under its stamp, at place 20
  pub written : past.began 7 ≡ a_write 0 second.bytes (ended_as second.stamp 20)
  -- after its Store node 0 holds two records
  pub both_held : held three 0 (after three laid opening) ≡ Ok 48
  -- after its Settle it holds one
  pub one_held : held three 0 (after three laid (opening ++ middle)) ≡ Ok 24
  -- node 1, which missed the Store, ends with none
  pub none_held : held three 1 (after three laid calls) ≡ Ok 0
