-- What a node holds, and what it does at a Store and at a Settle.
use Rattle.std.specs.Prelude.{ℕ, ◌+◌, ◌*◌, cond, List, [], ◌∷◌, ◌++◌, length, nat_lt}
use Rattle.code.specs.Meaning.{Meaning}
use Rattle.register.specs.Stamps.{Stamp, below, same_stamp}

-- The bytes of a record or of a piece.
abbrev pub Bytes : Type 0
Bytes = List ℕ

-- A piece under a stamp.
pub record Item : Type 0 where
  pub stamp : Stamp
  pub bytes : Bytes

-- A place for one piece or for one whole record, under a stamp.
pub data Spare : Type 0 where
  free : Spare
  one_piece : Stamp → Bytes → Spare
  one_record : Stamp → Bytes → Spare

-- A node: its floor, its shelf of pieces and its spare.
pub record Node : Type 0 where
  pub floor : Stamp
  pub shelf : List Item
  pub spare : Spare

-- A shelf without what stands under a stamp below F.
unfoldable pub cleared : Stamp → List Item → List Item
cleared F [] = []
cleared F (x ∷ xs) = cond (below x.stamp F) (cleared F xs) (x ∷ cleared F xs)

-- A spare likewise, where a whole record under F itself is cut to its piece i.
unfoldable pub cut : Meaning → ℕ → Stamp → Spare → Spare
cut m i F free = free
cut m i F (one_piece s b) = cond (below s F) free (one_piece s b)
cut m i F (one_record s r) = cond (below s F) free (cond (same_stamp s F) (one_piece s (m.piece r i)) (one_record s r))

-- Raising the floor of node i to F does nothing if F is at or below the floor.
unfoldable pub raise : Meaning → ℕ → Stamp → Node → Node
raise m i F a = cond (below a.floor F) (record { floor = F; shelf = cleared F a.shelf; spare = cut m i F a.spare }) a

-- A whole record replaces a spare that is free or under a lower stamp.
unfoldable pub replace : Stamp → Bytes → Spare → Spare
replace s r free = one_record s r
replace s r (one_piece t b) = cond (below t s) (one_record s r) (one_piece t b)
replace s r (one_record t b) = cond (below t s) (one_record s r) (one_record t b)

-- A record under s goes to the shelf of node i as its piece, and where k pieces stand there as a whole to the spare.
unfoldable pub put : Meaning → ℕ → Stamp → Bytes → Node → Node
put m i s r a =
    cond (nat_lt (length a.shelf) m.k)
    (record { floor = a.floor; shelf = a.shelf ++ (record { stamp = s; bytes = m.piece r i } ∷ []); spare = a.spare })
    (record { floor = a.floor; shelf = a.shelf; spare = replace s r a.spare })

-- Store at node i: where s is above the floor, the floor is raised to F and the record goes in under s.
unfoldable pub store : Meaning → ℕ → Stamp → Stamp → Bytes → Node → Node
store m i s F r a = cond (below a.floor s) (put m i s r (raise m i F a)) a

-- The bytes that a spare holds: w for a piece, 24 for a whole record.
abbrev pub spare_bytes : ℕ → Spare → ℕ
spare_bytes w free = 0
spare_bytes w (one_piece s b) = w
spare_bytes w (one_record s r) = 24

-- The bytes of records that a node holds.
abbrev pub held_bytes : ℕ → Node → ℕ
held_bytes w a = length a.shelf * w + spare_bytes w a.spare
