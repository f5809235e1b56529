-- What the holdings of some nodes rebuild: one rule for reads and for rebuilding.
-- Nodes are a table a, and some of them a test Q.
use Rattle.std.specs.Prelude.{ℕ, zero, suc, max, Bool, true, false, cond, List, [], ◌∷◌, ◌++◌, map, length, take, Some as some, None as none, Option, nat_le}
use Rattle.code.specs.Meaning.{Meaning}
use Rattle.record.specs.Layout.{is_record}
use Rattle.register.specs.Stamps.{Stamp, below, same_stamp, higher, lowest}
use Rattle.register.specs.Nodes.{Bytes, Item, Spare, free, one_piece, one_record, Node}

-- The first of two things that is there.
abbrev pub or_else : {A : Type 0} → Option A → Option A → Option A
or_else (some x) o = some x
or_else none o = o

-- A thing, if a test passes.
abbrev pub given : {A : Type 0} → Bool → A → Option A
given true x = some x
given false x = none

-- What may be there, if a test passes.
abbrev pub only_if : {A : Type 0} → Bool → Option A → Option A
only_if true o = o
only_if false o = none

-- The piece under t on a shelf.
unfoldable pub shelf_piece : Stamp → List Item → Option Bytes
shelf_piece t [] = none
shelf_piece t (x ∷ xs) = or_else (given (same_stamp x.stamp t) x.bytes) (shelf_piece t xs)

-- The piece under t in a spare.
unfoldable pub spare_piece : Stamp → Spare → Option Bytes
spare_piece t free = none
spare_piece t (one_piece s b) = given (same_stamp s t) b
spare_piece t (one_record s r) = none

-- The whole record under t in a spare.
unfoldable pub spare_record : Stamp → Spare → Option Bytes
spare_record t free = none
spare_record t (one_piece s b) = none
spare_record t (one_record s r) = given (same_stamp s t) r

-- The piece under t at a node.
unfoldable pub node_piece : Stamp → Node → Option Bytes
node_piece t a = or_else (shelf_piece t a.shelf) (spare_piece t a.spare)

-- A piece with its number, which is that of its node.
pub record Numbered : Type 0 where
  pub number : ℕ
  pub bytes : Bytes

-- The pieces ps, after piece i if it is there.
abbrev pub with_piece : ℕ → Option Bytes → List Numbered → List Numbered
with_piece i none ps = ps
with_piece i (some b) ps = record { number = i; bytes = b } ∷ ps

-- The pieces under t at those of the l nodes from i on that are in Q, by rising number.
unfoldable pub pieces : (ℕ → Bool) → (ℕ → Node) → Stamp → ℕ → ℕ → List Numbered
pieces Q a t i zero = []
pieces Q a t i (suc l) = with_piece i (only_if (Q i) (node_piece t (a i))) (pieces Q a t (suc i) l)

-- A whole record under t at those nodes.
unfoldable pub whole : (ℕ → Bool) → (ℕ → Node) → Stamp → ℕ → ℕ → Option Bytes
whole Q a t i zero = none
whole Q a t i (suc l) = or_else (only_if (Q i) (spare_record t (a i).spare)) (whole Q a t (suc i) l)

-- The numbers of pieces.
abbrev pub numbers : List Numbered → List ℕ
numbers ps = map (λ p. p.number) ps

-- The bytes of each piece.
abbrev pub contents : List Numbered → List Bytes
contents ps = map (λ p. p.bytes) ps

-- What joining the first k of the pieces gives.
abbrev pub joined : Meaning → List Numbered → Bytes
joined m ps = m.join (numbers (take m.k ps)) (contents (take m.k ps))

-- The stamps on a shelf.
unfoldable pub shelf_stamps : List Item → List Stamp
shelf_stamps [] = []
shelf_stamps (x ∷ xs) = x.stamp ∷ shelf_stamps xs

-- The stamp in a spare, if it is in use.
unfoldable pub spare_stamps : Spare → List Stamp
spare_stamps free = []
spare_stamps (one_piece s b) = s ∷ []
spare_stamps (one_record s r) = s ∷ []

-- The stamps of all that a node holds.
unfoldable pub node_stamps : Node → List Stamp
node_stamps a = shelf_stamps a.shelf ++ spare_stamps a.spare

-- The stamps of all that is held at those of the l nodes from i on that are in Q.
unfoldable pub stamps : (ℕ → Bool) → (ℕ → Node) → ℕ → ℕ → List Stamp
stamps Q a i zero = []
stamps Q a i (suc l) = cond (Q i) (node_stamps (a i) ++ stamps Q a (suc i) l) (stamps Q a (suc i) l)

-- The highest floor at those nodes, or s if that is higher.
unfoldable pub top_floor : (ℕ → Bool) → (ℕ → Node) → Stamp → ℕ → ℕ → Stamp
top_floor Q a s i zero = s
top_floor Q a s i (suc l) = top_floor Q a (cond (Q i) (higher s (a i).floor) s) (suc i) l

-- The highest count in a list of stamps, or n if that is higher.
unfoldable pub list_count : ℕ → List Stamp → ℕ
list_count n [] = n
list_count n (s ∷ ss) = list_count (max n s.count) ss

-- The highest count in any stamp at those nodes, floors included.
unfoldable pub top_count : (ℕ → Bool) → (ℕ → Node) → ℕ → ℕ → ℕ
top_count Q a i zero = 0
top_count Q a i (suc l) = max (cond (Q i) (list_count (a i).floor.count (node_stamps (a i))) 0) (top_count Q a (suc i) l)

-- A record under its stamp.
pub record Rebuilt : Type 0 where
  pub stamp : Stamp
  pub bytes : Bytes

-- Bytes that may be there, under s.
abbrev pub under : Stamp → Option Bytes → Option Rebuilt
under s none = none
under s (some r) = some (record { stamp = s; bytes = r })

-- The one of two that stands later.
abbrev pub later : Option Rebuilt → Option Rebuilt → Option Rebuilt
later none o = o
later (some x) none = some x
later (some x) (some y) = cond (below x.stamp y.stamp) (some y) (some x)

-- Bytes that may be there, if a record lies in them.
abbrev pub if_record : Option Bytes → Option Bytes
if_record none = none
if_record (some r) = given (is_record r) r

-- The record under t: a whole one, or what k pieces join to. Bytes in which no record lies are not readable.
unfoldable pub record_under : Meaning → (ℕ → Bool) → (ℕ → Node) → Stamp → Option Bytes
record_under m Q a t =
    let ps = pieces Q a t 0 m.n in
    if_record (or_else (whole Q a t 0 m.n) (given (nat_le m.k (length ps)) (joined m ps)))

-- The record under the highest readable one of some stamps: a stamp below F is not readable.
unfoldable pub highest : Meaning → (ℕ → Bool) → (ℕ → Node) → Stamp → List Stamp → Option Rebuilt
highest m Q a F [] = none
highest m Q a F (s ∷ ss) = later (cond (below s F) none (under s (record_under m Q a s))) (highest m Q a F ss)

-- What the nodes of Q rebuild: the record under the highest readable stamp, where F is their highest floor.
unfoldable pub rebuild : Meaning → (ℕ → Bool) → (ℕ → Node) → Option Rebuilt
rebuild m Q a = highest m Q a (top_floor Q a lowest 0 m.n) (stamps Q a 0 m.n)
