-- So far the record came back from each choice.
use Rattle.std.proofs.Common.{◌≡◌}
use Rattle.spread.proofs.trials.Nodes.silence_all.Given as goal

abbrev pub invariant-loop-silent : goal.invariant-loop-silent
invariant-loop-silent g l = l.all.survived ≡ l.all.choices
