-- What a shelf in memory means.
use Rattle.std.specs.Prelude.{List, map}
use Rattle.code.specs.Meaning.{Meaning}
use Rattle.register.specs.Nodes.{Item}
use Rattle.node.specs.declared.stamps.Stamp.{Stamp}
use Rattle.node.specs.declared.pieces.Pieces.{Pieces}
use Rattle.node.specs.Stamped.{stamp}
use Rattle.node.specs.Tagged.{Tagged, pieces}

-- What is read past the end of a list of stamps.
abbrev pub no_stamp : Stamp
no_stamp = record { count = 0; client = 0 }

-- A piece under its stamp.
abbrev pub item : Tagged Stamp → Item
item x = record { stamp = stamp x.tag; bytes = x.bytes }

-- The pieces, in their order.
abbrev pub shelf : Meaning → Pieces Stamp 6 → List Item
shelf m s = map item (pieces no_stamp m s)
