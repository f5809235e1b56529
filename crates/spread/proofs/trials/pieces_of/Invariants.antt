-- The nodes so far hold their pieces.
use Rattle.std.proofs.Common.{◌≡◌, map, vec_items}
use Rattle.std.specs.List.{range_with_len}
use Rattle.spread.specs.Trials.{held}
use Rattle.spread.proofs.trials.pieces_of.Given as goal

abbrev pub invariant-loop-node : goal.invariant-loop-node
invariant-loop-node g l = held (vec_items l.pieces) ≡ map (g.C.Code.meaning.piece l.whole) (range_with_len 0 l.node)
