use Rattle.std.proofs.Common.{◌≡◌, ℕ, ◌<◌, false}
use Rattle.segment.specs.Views.{tag}
use Rattle.segment.specs.Waits.{is_waiting}
use Rattle.segment.proofs.state.Post.first_waiting.Given as goal

abbrev pub invariant-loop-i : goal.invariant-loop-i
invariant-loop-i g l = (j : ℕ) → j < l.i → is_waiting (tag l.self j) ≡ false
