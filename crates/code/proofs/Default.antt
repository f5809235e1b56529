-- The piece that stands for one past the end of a list.
use Rattle.std.proofs.Common.{[]}
use Rattle.code.specs.declared.calls.Piece.{Piece}

abbrev pub none : Piece
none = record { number = 0; bytes = record { ref_ptr = (0, 0); now = [] } }
