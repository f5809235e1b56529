use Rattle.std.proofs.Common.{◌≡◌, ◌-◌, max}
use Rattle.register.specs.Reading.{top_count}
use Rattle.reads.specs.Views.{got, answer}
use Rattle.reads.proofs.rounds.Answers.top_count.Given as goal

abbrev pub invariant-loop-i : goal.invariant-loop-i
invariant-loop-i g l =
    max l.top (top_count (got l.self) (answer g.C.Code.meaning l.self) l.i (g.C.Code.meaning.n - l.i))
    ≡ top_count (got l.self) (answer g.C.Code.meaning l.self) 0 g.C.Code.meaning.n
