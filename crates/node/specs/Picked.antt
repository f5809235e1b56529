-- What pieces picked from nodes mean.
use Rattle.std.specs.Prelude.{ℕ, List, map}
use Rattle.code.specs.Meaning.{Meaning}
use Rattle.register.specs.Reading.{Numbered}
use Rattle.node.specs.declared.pieces.Pieces.{Pieces}
use Rattle.node.specs.Tagged.{Tagged, pieces}

-- A piece with its node's number.
abbrev pub numbered : Tagged ℕ → Numbered
numbered x = record { number = x.tag; bytes = x.bytes }

-- The pieces, in their order.
abbrev pub parts : Meaning → Pieces ℕ 8 → List Numbered
parts m p = map numbered (pieces 0 m p)
