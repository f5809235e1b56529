-- What a spread register promises, after any list of calls from a segment just laid out.
-- Place 0 of a history stands for the first record, so "a write" below takes it in.
use Rattle.std.specs.Prelude.{◌≡◌, ℕ, ◌+◌, ◌-◌, ◌*◌, ◌/◌, ◌<◌, ◌≤◌, Bool, true, List, [], ◌∷◌, length, Some as some, None as none, Option}
use Rattle.code.specs.Bytes as code
use Rattle.code.specs.Meaning.{Meaning, Lawful}
use Rattle.record.specs.Layout.{is_record}
use Rattle.register.specs.Tables.{upd, tally}
use Rattle.register.specs.Stamps.{Stamp, Earlier, NoLater}
use Rattle.register.specs.Nodes.{Bytes, Node, held_bytes}
use Rattle.register.specs.Reading.{Rebuilt, rebuild, pieces, joined, spare_record}
use Rattle.register.specs.Machine.{answered, looked, read_look, busy, Segment, Call, sign_on, sign_off, begin_write, begin_read, take, fetch, lay_out_refusal, laid_out}
use Rattle.register.specs.History.{History, start, history, entries, after, stamp_of, open_after, Ended, Gave, From}

-- The order of the writes.
pub record OneOrder (h : History) : Type 0 where
  -- the stamps of all stamped writes differ
  pub apart : (p q : ℕ) (s : Stamp) → stamp_of (h.began p) ≡ some s → stamp_of (h.began q) ≡ some s → p ≡ q
  -- a write that ended before another began stands earlier
  pub kept : (p q : ℕ) (s t : Stamp) (e : ℕ) → Ended (h.began p) s e → stamp_of (h.began q) ≡ some t → e < q → Earlier s t

-- What reads give.
pub record RegularReads (h : History) : Type 0 where
  -- a read that found a record gave that of one write begun before the read's end, under its stamp
  pub written : (p e : ℕ) (x : Rebuilt) → Gave (h.began p) x e → (q : ℕ) × (q < e) × From h q x
  -- no write that ended before the read began stands later than the one given
  pub recent : (p e : ℕ) (x : Rebuilt) → Gave (h.began p) x e
      → (q : ℕ) (s : Stamp) (e' : ℕ) → Ended (h.began q) s e' → e' < p → NoLater s x.stamp

-- Some nodes Q rebuild the record of one write, standing no earlier than any that has ended.
pub record Rebuilds (m : Meaning) (h : History) (node : ℕ → Node) (Q : ℕ → Bool) : Type 0 where
  -- a record under a stamp
  pub what : Rebuilt
  -- it is what they rebuild
  pub is : rebuild m Q node ≡ some what
  -- it is the record of the write that began there, under its stamp
  pub written : (q : ℕ) × From h q what
  -- no write that has ended stands later
  pub recent : (q : ℕ) (s : Stamp) (e : ℕ) → Ended (h.began q) s e → NoLater s what.stamp

-- Any n - f nodes or more do so.
abbrev pub Rebuilding : Meaning → History → (ℕ → Node) → Type 0
Rebuilding m h node = (Q : ℕ → Bool) → m.n - m.f ≤ tally Q 0 m.n → Rebuilds m h node Q

-- Never more than c writes were open together.
abbrev pub AtMostOpen : ℕ → History → Type 0
AtMostOpen c h = (p : ℕ) → p < h.next → tally (λ q. open_after p q (h.began q)) 0 h.next ≤ c

-- How many bytes of records a node holds.
pub record FewBytes (m : Meaning) (h : History) (node : ℕ → Node) : Type 0 where
  -- never more than 48
  pub most : (i : ℕ) → i < m.n → held_bytes m.w (node i) ≤ 48
  -- where never more than c writes were open together, and c + 1 is at most k, no more than (c + 1) × 24 / k
  pub few : (i c : ℕ) → i < m.n → c + 1 ≤ m.k → AtMostOpen c h → held_bytes m.w (node i) ≤ (c + 1) * 24 / m.k

-- The four promises of a history and the nodes after it.
pub record Keeps (m : Meaning) (h : History) (node : ℕ → Node) : Type 0 where
  -- the writes stand in one order, which follows their begins and ends
  pub order : OneOrder h
  -- a read gives a write's record, and none that was outdated when it began
  pub reads : RegularReads h
  -- any n - f nodes rebuild a write's record, and none that is outdated
  pub rebuilding : Rebuilding m h node
  -- no node holds more bytes than it may
  pub bytes : FewBytes m h node

-- The list is 24 bytes in which a record lies.
pub record ARecord (r : Bytes) : Type 0 where
  -- it is 24 bytes
  pub sized : code.Bytes 24 r
  -- a record lies in them
  pub lies : is_record r ≡ true

-- What is handed over in a list of calls are records.
abbrev pub Proper : List Call → Type 0
Proper [] = Unit {0}
Proper (sign_on c ∷ xs) = Proper xs
Proper (sign_off c ∷ xs) = Proper xs
Proper (begin_write c r ∷ xs) = ARecord r × Proper xs
Proper (begin_read c allowed ∷ xs) = Proper xs
Proper (take c i ∷ xs) = Proper xs
Proper (fetch c i ∷ xs) = Proper xs

-- Every list of calls from the segment σ keeps the promises, where r is the first record, under the first count.
abbrev pub SafeFrom : Meaning → ℕ → Bytes → Segment → Type 0
SafeFrom m count r σ =
    (xs : List Call) → Proper xs → Keeps m (history (start count r) (entries m σ xs)) (after m σ xs).node

-- So does every list from any segment just laid out.
abbrev pub Safe : Meaning → Type 0
Safe m =
    (clients count : ℕ) (r : Bytes) → lay_out_refusal clients count ≡ none → ARecord r → SafeFrom m count r (laid_out m clients count r)

-- So it is with every lawful code.
abbrev pub EveryCodeIsSafe : Type 0
EveryCodeIsSafe = (m : Meaning) → Lawful m → Safe m

-- Wherever k pieces under one stamp lie at the nodes of Q, joining them gives a record.
abbrev pub JoinsRecords : Meaning → (ℕ → Bool) → (ℕ → Node) → Type 0
JoinsRecords m Q a = (t : Stamp) → m.k ≤ length (pieces Q a t 0 m.n) → is_record (joined m (pieces Q a t 0 m.n)) ≡ true

-- Every whole record that lies at the nodes of Q is a record.
abbrev pub WholeRecords : Meaning → (ℕ → Bool) → (ℕ → Node) → Type 0
WholeRecords m Q a = (j : ℕ) → j < m.n → Q j ≡ true → (t : Stamp) (r : Bytes) → spare_record t (a j).spare ≡ some r → is_record r ≡ true

-- What can be read at the nodes of Q are records.
pub record RecordsAt (m : Meaning) (Q : ℕ → Bool) (a : ℕ → Node) : Type 0 where
  -- joined from pieces
  pub joins : JoinsRecords m Q a
  -- or whole
  pub wholes : WholeRecords m Q a

-- Bytes that are no record are never met, joined or whole.
pub record OnlyRecords (m : Meaning) (σ : Segment) : Type 0 where
  -- at no nodes
  pub nodes : (Q : ℕ → Bool) → RecordsAt m Q σ.node
  -- and in no read, whichever answer is fetched next
  pub answers : (c i allowed used : ℕ) (l : Option Bytes) (got : ℕ → Bool) (ans : ℕ → Node) (a : Node)
      → σ.client c ≡ busy l (read_look allowed used got ans) → i < m.n → σ.mail c i ≡ answered (looked a)
      → RecordsAt m (upd got i true) (upd ans i a)

-- This is so after every list of calls from any segment just laid out.
abbrev pub MeetsOnlyRecords : Meaning → Type 0
MeetsOnlyRecords m =
    (clients count : ℕ) (r : Bytes) → lay_out_refusal clients count ≡ none → ARecord r
    → (xs : List Call) → Proper xs → OnlyRecords m (after m (laid_out m clients count r) xs)
