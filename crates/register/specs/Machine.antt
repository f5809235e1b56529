-- The segment: nodes, mailboxes and clients, and what each call does.
use Rattle.std.specs.Prelude.{◌≡◌, ℕ, ◌+◌, ◌-◌, Bool, true, false, cond, ◌&&◌, [], ◌∷◌, Some as some, None as none, Ok, Err, Option, Result, nat_le, nat_lt}
use Rattle.code.specs.Meaning.{Meaning}
use Rattle.record.specs.Values.{same_bytes}
use Rattle.register.specs.Tables.{upd, tally}
use Rattle.register.specs.Stamps.{Stamp, lowest}
use Rattle.register.specs.Nodes.{Bytes, free, Node, raise, store, held_bytes}
use Rattle.register.specs.Reading.{Rebuilt, rebuild, top_floor, top_count}

-- What a client asks of a node.
pub data Request : Type 0 where
  -- to show what it holds
  look : Request
  -- to store a record under a stamp, with the floor F
  storing : Stamp → Stamp → Bytes → Request
  -- to raise its floor to a stamp
  settling : Stamp → Request

-- What a node answers.
pub data Answer : Type 0 where
  -- to a Look, a copy of its floor, shelf and spare
  looked : Node → Answer
  stored : Answer
  settled : Answer

-- The mailbox that a client and a node share.
pub data Mail : Type 0 where
  empty : Mail
  waiting : Request → Mail
  answered : Answer → Mail

-- An open operation, by its round; each round has the nodes fetched in it, and a Look round their answers.
pub data Open : Type 0 where
  -- a write's Look round, with its record
  write_look : Bytes → (ℕ → Bool) → (ℕ → Node) → Open
  -- its Store round, with its record, its stamp and F
  write_store : Bytes → Stamp → Stamp → (ℕ → Bool) → Open
  -- its Settle round, with its record and its stamp
  write_settle : Bytes → Stamp → (ℕ → Bool) → Open
  -- a read's Look round, with the rounds that are allowed and those opened
  read_look : ℕ → ℕ → (ℕ → Bool) → (ℕ → Node) → Open

-- A client is off, idle or busy with one operation. Signed on it has the record last found since, if any.
pub data Client : Type 0 where
  off : Client
  idle : Option Bytes → Client
  busy : Option Bytes → Open → Client

-- A segment.
pub record Segment : Type 0 where
  -- how many clients are laid out
  pub clients : ℕ
  -- the nodes
  pub node : ℕ → Node
  -- the mailboxes of each client, by node
  pub mail : ℕ → ℕ → Mail
  -- the clients
  pub client : ℕ → Client

-- The calls by client number.
pub data Call : Type 0 where
  sign_on : ℕ → Call
  sign_off : ℕ → Call
  -- with the record
  begin_write : ℕ → Bytes → Call
  -- with the allowed rounds
  begin_read : ℕ → ℕ → Call
  -- at a node, which carries out the client's request
  take : ℕ → ℕ → Call
  -- at a node, whose answer the client removes
  fetch : ℕ → ℕ → Call

-- What a call answers.
pub data Outcome : Type 0 where
  -- it was refused, by this number
  refused : ℕ → Outcome
  -- a sign-on, a sign-off or a begin was done
  done : Outcome
  -- the request was carried out
  taken : Request → Outcome
  -- the answer was kept, and the round goes on
  kept : Outcome
  -- the round closed, and the next one began
  round : Outcome
  -- a write's Look round closed, the write has its stamp, and its Store round began
  stamped : Stamp → Outcome
  -- the write ended under its stamp
  wrote : Stamp → Outcome
  -- the read ended: the rounds opened, what was found, and whether it is the same as the last record found
  found : ℕ → Rebuilt → Bool → Outcome
  -- the operation ended with ending 17 or 18
  ended : ℕ → Outcome

-- A turn of one client: the outcome, its entry and its mailboxes.
pub record Turn : Type 0 where
  pub outcome : Outcome
  pub client : Client
  pub mail : ℕ → Mail

-- A visit to one node: the outcome, the node and the mailbox.
pub record Visit : Type 0 where
  pub outcome : Outcome
  pub node : Node
  pub mail : Mail

-- A step of the segment: the outcome, and the segment after it.
pub record Step : Type 0 where
  pub outcome : Outcome
  pub after : Segment

-- What stands in a table of nodes where there is none.
abbrev pub no_node : Node
no_node = record { floor = lowest; shelf = []; spare = free }

-- No node is fetched.
abbrev pub nobody : ℕ → Bool
nobody i = false

-- No answers.
abbrev pub no_answers : ℕ → Node
no_answers i = no_node

-- Laying out is refused for its clients, then for its first count.
abbrev pub lay_out_refusal : ℕ → ℕ → Option ℕ
lay_out_refusal clients count = cond (nat_le 1 clients && nat_le clients 8) (cond (nat_le count 999999999) none (some 7)) (some 6)

-- A segment just laid out: floors at (first count, 0), the pieces of the first record under that stamp, and nothing else.
unfoldable pub laid_out : Meaning → ℕ → ℕ → Bytes → Segment
laid_out m clients count r =
    let s : Stamp = record { count = count; client = 0 } in
    record {
      clients = clients;
      node = λ i. cond (nat_lt i m.n) (record { floor = s; shelf = record { stamp = s; bytes = m.piece r i } ∷ []; spare = free }) no_node;
      mail = λ c i. empty;
      client = λ c. off;
    }

-- The mailboxes with the request q at each of the n nodes.
abbrev pub posted : ℕ → Request → ℕ → Mail
posted n q i = cond (nat_lt i n) (waiting q) empty

-- A refusal changes nothing.
abbrev pub refuses : ℕ → Client → (ℕ → Mail) → Turn
refuses e x mail = record { outcome = refused e; client = x; mail = mail }

-- Sign-on: 10 already on.
unfoldable pub on_turn : Client → (ℕ → Mail) → Turn
on_turn off mail = record { outcome = done; client = idle none; mail = mail }
on_turn (idle l) mail = refuses 10 (idle l) mail
on_turn (busy l o) mail = refuses 10 (busy l o) mail

-- Sign-off: 11 off, 12 operation open.
unfoldable pub off_turn : Client → (ℕ → Mail) → Turn
off_turn off mail = refuses 11 off mail
off_turn (idle l) mail = record { outcome = done; client = off; mail = mail }
off_turn (busy l o) mail = refuses 12 (busy l o) mail

-- The begin of a write: 11 off, 12 operation open.
unfoldable pub write_turn : Meaning → Bytes → Client → (ℕ → Mail) → Turn
write_turn m r off mail = refuses 11 off mail
write_turn m r (idle l) mail = record { outcome = done; client = busy l (write_look r nobody no_answers); mail = posted m.n look }
write_turn m r (busy l o) mail = refuses 12 (busy l o) mail

-- The begin of a read: 11 off, 12 operation open, 13 rounds not 1 to 250.
unfoldable pub read_turn : Meaning → ℕ → Client → (ℕ → Mail) → Turn
read_turn m allowed off mail = refuses 11 off mail
read_turn m allowed (idle l) mail =
    cond (nat_le 1 allowed && nat_le allowed 250)
    (record { outcome = done; client = busy l (read_look allowed 1 nobody no_answers); mail = posted m.n look })
    (refuses 13 (idle l) mail)
read_turn m allowed (busy l o) mail = refuses 12 (busy l o) mail

-- What node i does with a request.
unfoldable pub served : Meaning → ℕ → Request → Node → Node
served m i look a = a
served m i (storing s F r) a = store m i s F r a
served m i (settling s) a = raise m i s a

-- What a node answers to a request.
abbrev pub answer : Request → Node → Answer
answer look a = looked a
answer (storing s F r) a = stored
answer (settling s) a = settled

-- Take at node i: 14 no request waiting.
unfoldable pub visit : Meaning → ℕ → Node → Mail → Visit
visit m i a empty = record { outcome = refused 14; node = a; mail = empty }
visit m i a (answered x) = record { outcome = refused 14; node = a; mail = answered x }
visit m i a (waiting q) = record { outcome = taken q; node = served m i q a; mail = answered (answer q a) }

-- A round closes when n - f nodes are fetched.
abbrev pub closes : Meaning → (ℕ → Bool) → Bool
closes m got = nat_le (m.n - m.f) (tally got 0 m.n)

-- The record r is the same as the last one found.
abbrev pub is_same : Option Bytes → Bytes → Bool
is_same none r = false
is_same (some l) r = same_bytes l r

-- What a fetch by client c at node i does, where l is the record last found.
module _ (m : Meaning) (c i : ℕ) (mail : ℕ → Mail) (l : Option Bytes) where
  -- The answer is removed.
  abbrev pub fetched : Outcome → Client → Turn
  fetched o x = record { outcome = o; client = x; mail = upd mail i empty }

  -- A new round puts its request into all n mailboxes.
  abbrev pub next_round : Outcome → Open → Request → Turn
  next_round o x q = record { outcome = o; client = busy l x; mail = posted m.n q }

  -- A write is stamped above the highest count N, unless there is no higher one.
  abbrev pub stamp_turn : Bytes → ℕ → Stamp → Turn
  stamp_turn r N F =
      let s : Stamp = record { count = N + 1; client = c } in
      cond (nat_le 999999999 N) (fetched (ended 17) (idle l)) (next_round (stamped s) (write_store r s F nobody) (storing s F r))

  -- A write's Look round.
  abbrev pub write_look_turn : Bytes → (ℕ → Bool) → (ℕ → Node) → Turn
  write_look_turn r got ans =
      cond (closes m got) (stamp_turn r (top_count got ans 0 m.n) (top_floor got ans lowest 0 m.n)) (fetched kept (busy l (write_look r got ans)))

  -- Its Store round.
  abbrev pub store_turn : Bytes → Stamp → Stamp → (ℕ → Bool) → Turn
  store_turn r s F got = cond (closes m got) (next_round round (write_settle r s nobody) (settling s)) (fetched kept (busy l (write_store r s F got)))

  -- Its Settle round.
  abbrev pub settle_turn : Bytes → Stamp → (ℕ → Bool) → Turn
  settle_turn r s got = cond (closes m got) (fetched (wrote s) (idle l)) (fetched kept (busy l (write_settle r s got)))

  -- The close of a read's Look round, by what the answers rebuild: the record, or another round, or ending 18.
  abbrev pub found_turn : ℕ → ℕ → Option Rebuilt → Turn
  found_turn allowed used (some x) = fetched (found used x (is_same l x.bytes)) (idle (some x.bytes))
  found_turn allowed used none =
      cond (nat_lt used allowed) (next_round round (read_look allowed (used + 1) nobody no_answers) look) (fetched (ended 18) (idle l))

  -- A read's Look round.
  abbrev pub read_look_turn : ℕ → ℕ → (ℕ → Bool) → (ℕ → Node) → Turn
  read_look_turn allowed used got ans =
      cond (closes m got) (found_turn allowed used (rebuild m got ans)) (fetched kept (busy l (read_look allowed used got ans)))

  -- By the open operation and the answer together: 16 no answer of its round.
  abbrev pub open_turn : Open → Answer → Turn
  open_turn (write_look r got ans) (looked a) = write_look_turn r (upd got i true) (upd ans i a)
  open_turn (write_look r got ans) stored = refuses 16 (busy l (write_look r got ans)) mail
  open_turn (write_look r got ans) settled = refuses 16 (busy l (write_look r got ans)) mail
  open_turn (write_store r s F got) (looked a) = refuses 16 (busy l (write_store r s F got)) mail
  open_turn (write_store r s F got) stored = store_turn r s F (upd got i true)
  open_turn (write_store r s F got) settled = refuses 16 (busy l (write_store r s F got)) mail
  open_turn (write_settle r s got) (looked a) = refuses 16 (busy l (write_settle r s got)) mail
  open_turn (write_settle r s got) stored = refuses 16 (busy l (write_settle r s got)) mail
  open_turn (write_settle r s got) settled = settle_turn r s (upd got i true)
  open_turn (read_look allowed used got ans) (looked a) = read_look_turn allowed used (upd got i true) (upd ans i a)
  open_turn (read_look allowed used got ans) stored = refuses 16 (busy l (read_look allowed used got ans)) mail
  open_turn (read_look allowed used got ans) settled = refuses 16 (busy l (read_look allowed used got ans)) mail

  -- By the mailbox: 16 no answer there.
  abbrev pub mail_turn : Open → Mail → Turn
  mail_turn o empty = refuses 16 (busy l o) mail
  mail_turn o (waiting q) = refuses 16 (busy l o) mail
  mail_turn o (answered x) = open_turn o x

-- Fetch: 11 off, 15 no operation open, 16 no answer in that mailbox.
unfoldable pub fetch_turn : Meaning → ℕ → ℕ → Client → (ℕ → Mail) → Turn
fetch_turn m c i off mail = refuses 11 off mail
fetch_turn m c i (idle l) mail = refuses 15 (idle l) mail
fetch_turn m c i (busy l o) mail = mail_turn m c i mail l o (mail i)

-- A client's turn in the segment.
abbrev pub turned : Segment → ℕ → Turn → Step
turned σ c t = record {
  outcome = t.outcome;
  after = record { clients = σ.clients; node = σ.node; mail = upd σ.mail c t.mail; client = upd σ.client c t.client };
}

-- A visit for client c at node i in the segment.
abbrev pub visited : Segment → ℕ → ℕ → Visit → Step
visited σ c i v = record {
  outcome = v.outcome;
  after = record { clients = σ.clients; node = upd σ.node i v.node; mail = upd σ.mail c (upd (σ.mail c) i v.mail); client = σ.client };
}

-- Where a test fails the step is refused by e, and changes nothing.
abbrev pub check : Bool → ℕ → Segment → Step → Step
check passes e σ d = cond passes d (record { outcome = refused e; after = σ })

-- What a call does: 8 client not laid out, 9 node not in the segment, then the turn or the visit.
unfoldable pub step : Meaning → Call → Segment → Step
step m (sign_on c) σ = check (nat_lt c σ.clients) 8 σ (turned σ c (on_turn (σ.client c) (σ.mail c)))
step m (sign_off c) σ = check (nat_lt c σ.clients) 8 σ (turned σ c (off_turn (σ.client c) (σ.mail c)))
step m (begin_write c r) σ = check (nat_lt c σ.clients) 8 σ (turned σ c (write_turn m r (σ.client c) (σ.mail c)))
step m (begin_read c allowed) σ = check (nat_lt c σ.clients) 8 σ (turned σ c (read_turn m allowed (σ.client c) (σ.mail c)))
step m (take c i) σ = check (nat_lt c σ.clients) 8 σ (check (nat_lt i m.n) 9 σ (visited σ c i (visit m i (σ.node i) (σ.mail c i))))
step m (fetch c i) σ = check (nat_lt c σ.clients) 8 σ (check (nat_lt i m.n) 9 σ (turned σ c (fetch_turn m c i (σ.client c) (σ.mail c))))

-- How many bytes of records node i holds: 9 node not in the segment.
abbrev pub held : Meaning → ℕ → Segment → Result ℕ ℕ
held m i σ = cond (nat_lt i m.n) (Ok (held_bytes m.w (σ.node i))) (Err 9)

-- A request waits in the mailbox.
abbrev pub is_waiting : Mail → Bool
is_waiting empty = false
is_waiting (waiting q) = true
is_waiting (answered x) = false

-- A request of client c waits at node i.
abbrev pub waits : Meaning → Segment → ℕ → ℕ → Bool
waits m σ c i = nat_lt c σ.clients && (nat_lt i m.n && is_waiting (σ.mail c i))

-- A client and a node.
pub record Pair : Type 0 where
  pub client : ℕ
  pub node : ℕ

-- What Next may answer: a pair whose request waits, or 19 where nothing waits.
abbrev pub Next : Meaning → Segment → Result Pair ℕ → Type 0
Next m σ (Ok p) = waits m σ p.client p.node ≡ true
Next m σ (Err e) = (e ≡ 19) × ((c i : ℕ) → waits m σ c i ≡ false)
