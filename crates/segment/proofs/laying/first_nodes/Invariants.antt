use Rattle.std.proofs.Common.{◌≡◌, ℕ, ◌<◌, [], ◌∷◌, length, get_or}
use Rattle.register.specs.Nodes.{free}
use Rattle.node.specs.Stamped.{stamp}
use Rattle.node.specs.Views.{node}
use Rattle.reads.specs.Views.{past_nodes}
use Rattle.segment.proofs.laying.first_nodes.Given as goal

abbrev pub invariant-loop-i : goal.invariant-loop-i
invariant-loop-i g l =
    (length l.nodes ≡ 8)
    × ((j : ℕ) → j < l.i → node g.C.Code.meaning (get_or l.nodes j past_nodes) ≡ record { floor = stamp l.stamp; shelf = record { stamp = stamp l.stamp; bytes = g.C.Code.meaning.piece l.whole j } ∷ []; spare = free })
