use Rattle.std.proofs.Common.{refl, arith}
use Rattle.segment.proofs.Waits.{waits_nowhere}
use Rattle.segment.proofs.state.Segment.next_waiting.Goals as goal

pub returns : goal.returns
returns g c =
    (refl, λ d i. waits_nowhere g.C.Code.meaning c.args.self.now.state d i (λ l k. c.loop-client.invariant d i (omega arith) k))
