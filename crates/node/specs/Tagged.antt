-- What pieces in memory mean: those in the first places, in their order, each with its tag.
use Rattle.std.specs.Prelude.{ℕ, min, List, map, slice_index_or}
use Rattle.std.specs.List.{range_with_len}
use Rattle.code.specs.Meaning.{Meaning}
use Rattle.code.specs.Calls.{part}
use Rattle.register.specs.Nodes.{Bytes}
use Rattle.node.specs.declared.pieces.Pieces.{Pieces}

-- A piece with its tag.
pub record Tagged (A : Type 0) : Type 0 where
  pub tag : A
  pub bytes : Bytes

-- What is read past the end of the tags is d.
module _ {A : Type 0} {max : ℕ} (d : A) where
  -- The piece at place j, where places have w bytes.
  abbrev pub piece_at : ℕ → Pieces A max → ℕ → Tagged A
  piece_at w p j = record { tag = slice_index_or p.tags j d; bytes = part w p.bytes j }

  -- The pieces in the first places: as many are in use as the count says, and never more than k.
  abbrev pub pieces : Meaning → Pieces A max → List (Tagged A)
  pieces m p = map (piece_at m.w p) (range_with_len 0 (min p.count m.k))
