use Rattle.std.proofs.Common.{◌≡◌, ◌-◌, ◌++◌, take, sym, ◌∙◌, ap₂, arith}
use Rattle.register.specs.Reading.{pieces}
use Rattle.node.specs.Stamped.{stamp}
use Rattle.node.specs.Picked.{parts}
use Rattle.reads.specs.Views.{got, answer}
use Rattle.reads.proofs.Loops.{gather_more, gather_all}
use Rattle.reads.proofs.Under.{few_parts}
use Rattle.reads.proofs.rounds.Answers.gather.Goals as goal

pub loop-i-init : goal.loop-i-init
loop-i-init g c =
    let m = g.C.Code.meaning in
    let e : m.n - 0 ≡ m.n = omega arith in
    ap₂ (λ p v. take m.k (p ++ pieces (got c.args.self.now) (answer m c.args.self.now) (stamp c.args.stamp) 0 v)) c.none-parts.ensures e

pub loop-i-preserved : goal.loop-i-preserved
loop-i-preserved g c =
    let n = c.N-i-end.ensures ∙ g.met.C.Code.n_is in
    let m = g.C.Code.meaning in
    sym (gather_more (got c.args.self.now) (answer m c.args.self.now) c.loop-i.i m.n (stamp c.args.stamp) m.k
    (parts m c.loop-i.parts) (parts m c.gather_at.new.parts) (omega arith) c.gather_at.ensures)
    ∙ c.loop-i.invariant

pub returns : goal.returns
returns g c =
    let n = c.N-i-end.ensures ∙ g.met.C.Code.n_is in
    let m = g.C.Code.meaning in
    sym (gather_all (got c.args.self.now) (answer m c.args.self.now) c.loop-i.i m.n (stamp c.args.stamp) m.k
    (parts m c.loop-i.parts) (omega arith) (few_parts m c.loop-i.parts))
    ∙ c.loop-i.invariant
