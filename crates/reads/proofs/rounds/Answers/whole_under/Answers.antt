use Rattle.std.proofs.Common.{◌≡◌, ◌-◌, sym, ap, ◌∙◌, arith, rules}
use Rattle.register.specs.Reading.{whole}
use Rattle.node.specs.Stamped.{stamp}
use Rattle.reads.specs.Views.{got, answer}
use Rattle.reads.proofs.Loops.{whole_here, whole_next, whole_all}
use Rattle.reads.proofs.rounds.Answers.whole_under.Goals as goal

pub loop-i-init : goal.loop-i-init
loop-i-init g c =
    let m = g.C.Code.meaning in
    let e : m.n - 0 ≡ m.n = omega arith in
    ap (λ v. whole (got c.args.self.now) (answer m c.args.self.now) (stamp c.args.stamp) 0 v) e

pub loop-i-preserved : goal.loop-i-preserved
loop-i-preserved g c =
    let n = c.N-i-end.ensures ∙ g.met.C.Code.n_is in
    let m = g.C.Code.meaning in
    sym (whole_next (got c.args.self.now) (answer m c.args.self.now) c.loop-i.i m.n (stamp c.args.stamp) (omega arith) (search rules)) ∙ c.loop-i.invariant

pub returns-in-Some : goal.returns-in-Some
returns-in-Some g c =
    let n = c.N-i-end.ensures ∙ g.met.C.Code.n_is in
    let m = g.C.Code.meaning in
    sym (whole_here (got c.args.self.now) (answer m c.args.self.now) c.loop-i.i m.n (stamp c.args.stamp) (omega arith) _ (search rules)) ∙ c.loop-i.invariant

pub returns : goal.returns
returns g c =
    let n = c.N-i-end.ensures ∙ g.met.C.Code.n_is in
    let m = g.C.Code.meaning in
    sym (sym c.loop-i.invariant ∙ whole_all (got c.args.self.now) (answer m c.args.self.now) c.loop-i.i m.n (stamp c.args.stamp) (omega arith))
