use Rattle.std.proofs.Common.{◌<◌, ◌≢◌, length, ap, ◌∙◌, arith, below_more}
use Rattle.std.proofs.Math.ListN.{length-set}
use Rattle.std.proofs.lemmas.List.{get_or-set_same, get_or-set_other}
use Rattle.node.specs.Views.{node}
use Rattle.reads.specs.Views.{past_nodes}
use Rattle.segment.proofs.laying.first_nodes.Goals as goal

pub loop-i-preserved : goal.loop-i-preserved
loop-i-preserved g c =
    let m = g.C.Code.meaning in
    let few = g.met.C.Code.lawful.few in
    let n = c.N-i-end.ensures ∙ g.met.C.Code.n_is in
    let i = c.loop-i.i in
    let ns = c.loop-i.nodes in
    let long = c.loop-i.invariant.0 in (
      length-set ns i c.laid.result ∙ long,
      below_more _ _
          (λ k h. let ne : k ≢ i = omega arith in ap (node m) (get_or-set_other ns i k c.laid.result past_nodes ne) ∙ c.loop-i.invariant.1 k h)
          (let l : i < length ns = omega arith in ap (node m) (get_or-set_same ns i c.laid.result past_nodes l) ∙ c.laid.ensures (omega arith)),
    )
