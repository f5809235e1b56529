use Rattle.std.proofs.Common.{◌≡◌, ◌-◌}
use Rattle.register.specs.Stamps.{lowest}
use Rattle.register.specs.Reading.{top_floor}
use Rattle.node.specs.Stamped.{stamp}
use Rattle.reads.specs.Views.{got, answer}
use Rattle.reads.proofs.rounds.Answers.top_floor.Given as goal

abbrev pub invariant-loop-i : goal.invariant-loop-i
invariant-loop-i g l =
    top_floor (got l.self) (answer g.C.Code.meaning l.self) (stamp l.top) l.i (g.C.Code.meaning.n - l.i)
    ≡ top_floor (got l.self) (answer g.C.Code.meaning l.self) lowest 0 g.C.Code.meaning.n
