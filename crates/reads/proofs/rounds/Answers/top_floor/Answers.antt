use Rattle.std.proofs.Common.{◌≡◌, ◌+◌, ◌-◌, sym, ap, ◌∙◌, ap₂, arith}
use Rattle.register.specs.Reading.{top_floor}
use Rattle.node.specs.Stamped.{stamp}
use Rattle.reads.specs.Views.{got, answer}
use Rattle.reads.proofs.Loops.{floor_more, floor_all}
use Rattle.reads.proofs.rounds.Answers.top_floor.Goals as goal

pub loop-i-init : goal.loop-i-init
loop-i-init g c =
    let n = g.C.Code.meaning.n in
    let e : n - 0 ≡ n = omega arith in
    ap₂ (λ s v. top_floor (got c.args.self.now) (answer g.C.Code.meaning c.args.self.now) s 0 v) c.lowest-top.ensures e

pub loop-i-preserved : goal.loop-i-preserved
loop-i-preserved g c =
    let few = c.N-i-end.ensures ∙ g.met.C.Code.n_is in
    let n = g.C.Code.meaning.n in
    let i = c.loop-i.i in
    let Q = got c.args.self.now in
    let a = answer g.C.Code.meaning c.args.self.now in
    ap (λ s. top_floor Q a s (i + 1) (n - (i + 1))) c.floor_over-top.ensures ∙ sym (floor_more Q a i n (stamp c.loop-i.top) (omega arith)) ∙ c.loop-i.invariant

pub returns : goal.returns
returns g c =
    let few = c.N-i-end.ensures ∙ g.met.C.Code.n_is in
    let m = g.C.Code.meaning in
    sym (floor_all (got c.args.self.now) (answer m c.args.self.now) c.loop-i.i m.n (stamp c.loop-i.top) (omega arith)) ∙ c.loop-i.invariant
