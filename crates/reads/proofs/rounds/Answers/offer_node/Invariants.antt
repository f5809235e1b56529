use Rattle.std.proofs.Common.{◌≡◌, drop}
use Rattle.register.specs.Reading.{later, highest, node_stamps}
use Rattle.node.specs.Stamped.{stamp}
use Rattle.reads.specs.Views.{got, answer}
use Rattle.node.specs.Views.{node}
use Rattle.reads.specs.Finds.{found}
use Rattle.reads.proofs.rounds.Answers.offer_node.Given as goal

abbrev pub invariant-loop-j : goal.invariant-loop-j
invariant-loop-j g l =
    later (found l.best) (highest g.C.Code.meaning (got l.self) (answer g.C.Code.meaning l.self) (stamp l.floor) (drop l.j (node_stamps (node g.C.Code.meaning l.node))))
    ≡ later (found l.initial.best) (highest g.C.Code.meaning (got l.self) (answer g.C.Code.meaning l.self) (stamp l.floor) (node_stamps (node g.C.Code.meaning l.node)))
