use Rattle.std.proofs.Common.{◌≡◌, ◌-◌}
use Rattle.register.specs.Reading.{whole}
use Rattle.node.specs.Stamped.{stamp}
use Rattle.reads.specs.Views.{got, answer}
use Rattle.reads.proofs.rounds.Answers.whole_under.Given as goal

abbrev pub invariant-loop-i : goal.invariant-loop-i
invariant-loop-i g l =
    whole (got l.self) (answer g.C.Code.meaning l.self) (stamp l.stamp) l.i (g.C.Code.meaning.n - l.i)
    ≡ whole (got l.self) (answer g.C.Code.meaning l.self) (stamp l.stamp) 0 g.C.Code.meaning.n
