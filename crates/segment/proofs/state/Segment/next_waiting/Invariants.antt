use Rattle.std.proofs.Common.{◌≡◌, ℕ, ◌<◌, false}
use Rattle.segment.specs.Views.{tag, entry}
use Rattle.segment.specs.Waits.{is_waiting}
use Rattle.segment.proofs.state.Segment.next_waiting.Given as goal

abbrev pub invariant-loop-client : goal.invariant-loop-client
invariant-loop-client g l = (d i : ℕ) → d < l.client → i < g.C.Code.meaning.n → is_waiting (tag (entry l.self.state d).post i) ≡ false
