use Rattle.std.proofs.Common.{◌≡◌, ◌-◌, ◌++◌, take}
use Rattle.register.specs.Reading.{pieces}
use Rattle.node.specs.Stamped.{stamp}
use Rattle.node.specs.Picked.{parts}
use Rattle.reads.specs.Views.{got, answer}
use Rattle.reads.proofs.rounds.Answers.gather.Given as goal

abbrev pub invariant-loop-i : goal.invariant-loop-i
invariant-loop-i g l =
    take g.C.Code.meaning.k (parts g.C.Code.meaning l.parts ++ pieces (got l.self) (answer g.C.Code.meaning l.self) (stamp l.stamp) l.i (g.C.Code.meaning.n - l.i))
    ≡ take g.C.Code.meaning.k (pieces (got l.self) (answer g.C.Code.meaning l.self) (stamp l.stamp) 0 g.C.Code.meaning.n)
