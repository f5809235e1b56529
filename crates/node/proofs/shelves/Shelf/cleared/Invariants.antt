use Rattle.std.proofs.Common.{◌≡◌, ◌≤◌, take}
use Rattle.register.specs.Nodes.{cleared}
use Rattle.node.specs.Stamped.{stamp}
use Rattle.node.specs.Shelved.{shelf}
use Rattle.node.proofs.shelves.Shelf.cleared.Given as goal

abbrev pub invariant-loop-j : goal.invariant-loop-j
invariant-loop-j g l =
    (l.rest.count ≤ l.j) × (shelf g.C.Code.meaning l.rest ≡ cleared (stamp l.floor) (take l.j (shelf g.C.Code.meaning l.self)))
