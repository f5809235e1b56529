use Rattle.std.proofs.Common.{◌≡◌, ◌-◌}
use Rattle.register.specs.Reading.{later, highest, stamps}
use Rattle.node.specs.Stamped.{stamp}
use Rattle.reads.specs.Views.{got, answer}
use Rattle.reads.specs.Finds.{found}
use Rattle.reads.proofs.rounds.Answers.rebuild.Given as goal

abbrev pub invariant-loop-i : goal.invariant-loop-i
invariant-loop-i g l =
    later (found l.best) (highest g.C.Code.meaning (got l.self) (answer g.C.Code.meaning l.self) (stamp l.floor) (stamps (got l.self) (answer g.C.Code.meaning l.self) l.i (g.C.Code.meaning.n - l.i)))
    ≡ highest g.C.Code.meaning (got l.self) (answer g.C.Code.meaning l.self) (stamp l.floor) (stamps (got l.self) (answer g.C.Code.meaning l.self) 0 g.C.Code.meaning.n)
