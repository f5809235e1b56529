use Rattle.std.proofs.Common.{◌≡◌, ◌+◌, ◌-◌, cond, [], sym, ap, ◌∙◌, arith}
use Rattle.register.specs.Reading.{later, highest, node_stamps, stamps, rebuild}
use Rattle.node.specs.Stamped.{stamp}
use Rattle.reads.specs.Views.{got, answer}
use Rattle.reads.specs.Finds.{found}
use Rattle.reads.proofs.Loops.{stamps_more, stamps_all}
use Rattle.reads.proofs.Latest.{left_more, left_none}
use Rattle.reads.proofs.rounds.Answers.rebuild.Goals as goal

pub loop-i-init : goal.loop-i-init
loop-i-init g c =
    let m = g.C.Code.meaning in
    let Q = got c.args.self.now in
    let a = answer m c.args.self.now in
    let e : m.n - 0 ≡ m.n = omega arith in
    ap (λ v. highest m Q a (stamp c.top_floor-floor.result) (stamps Q a 0 v)) e

pub loop-i-preserved : goal.loop-i-preserved
loop-i-preserved g c =
    let n = c.N-i-end.ensures ∙ g.met.C.Code.n_is in
    let m = g.C.Code.meaning in
    let i = c.loop-i.i in
    let Q = got c.args.self.now in
    let a = answer m c.args.self.now in
    let F = stamp c.top_floor-floor.result in
    sym (ap (λ v. later (found c.loop-i.best) (highest m Q a F v)) (stamps_more Q a i m.n (omega arith))
    ∙ left_more m Q a F (found c.loop-i.best) (found c.offer_node-best.result) (cond (Q i) (node_stamps (a i)) []) (stamps Q a (i + 1) (m.n - (i + 1))) c.offer_node-best.ensures)
    ∙ c.loop-i.invariant

pub returns : goal.returns
unfolding rebuild
returns g c =
    let n = c.N-i-end.ensures ∙ g.met.C.Code.n_is in
    let m = g.C.Code.meaning in
    let Q = got c.args.self.now in
    let a = answer m c.args.self.now in
    sym (left_none m Q a (stamp c.top_floor-floor.result) (found c.loop-i.best) (stamps Q a c.loop-i.i (m.n - c.loop-i.i)) (stamps_all Q a c.loop-i.i m.n (omega arith)))
    ∙ c.loop-i.invariant
    ∙ ap (λ F. highest m Q a F (stamps Q a 0 m.n)) c.top_floor-floor.ensures
