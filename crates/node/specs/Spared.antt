-- What a spare in memory means.
use Rattle.std.specs.Prelude.{Option, Some, None}
use Rattle.code.specs.Meaning.{Meaning}
use Rattle.code.specs.Calls.{part}
use Rattle.register.specs.Nodes as register
use Rattle.node.specs.declared.stamps.Stamp.{Stamp}
use Rattle.node.specs.declared.spares.Spare.{Spare}
use Rattle.node.specs.declared.spares.Spare.TheVariants.{Free, Piece, Whole}
use Rattle.node.specs.Stamped.{stamp}

-- A piece stands in the first w bytes.
abbrev pub spare : Meaning → Spare → register.Spare
spare m Free = register.free
spare m (Piece s) = register.one_piece (stamp s.stamp) (part m.w s.bytes 0)
spare m (Whole s) = register.one_record (stamp s.stamp) s.bytes

-- The stamp of what is there.
abbrev pub stamp_in : Spare → Option Stamp
stamp_in Free = None
stamp_in (Piece s) = Some s.stamp
stamp_in (Whole s) = Some s.stamp
