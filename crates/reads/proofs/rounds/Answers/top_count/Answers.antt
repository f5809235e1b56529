use Rattle.std.proofs.Common.{◌≡◌, ◌-◌, max, ap, ◌∙◌, arith, rules}
use Rattle.register.specs.Reading.{top_count}
use Rattle.reads.specs.Views.{got, answer}
use Rattle.reads.proofs.Loops.{count_more, count_all}
use Rattle.reads.proofs.rounds.Answers.top_count.Goals as goal

pub loop-i-init : goal.loop-i-init
loop-i-init g c =
    let m = g.C.Code.meaning in
    let e : m.n - 0 ≡ m.n = omega arith in
    let z = ap (top_count (got c.args.self.now) (answer m c.args.self.now) 0) e in
    omega arith

pub loop-i-preserved : goal.loop-i-preserved
loop-i-preserved g c =
    let n = c.N-i-end.ensures ∙ g.met.C.Code.n_is in
    let m = g.C.Code.meaning in
    let t : c.max-top.result ≡ max c.loop-i.top c.count_at.result = search rules in
    let z = count_more (got c.args.self.now) (answer m c.args.self.now) c.loop-i.i m.n (omega arith) in
    let y = c.count_at.ensures in
    let x = c.loop-i.invariant in
    omega arith

pub returns : goal.returns
returns g c =
    let n = c.N-i-end.ensures ∙ g.met.C.Code.n_is in
    let m = g.C.Code.meaning in
    let z = count_all (got c.args.self.now) (answer m c.args.self.now) c.loop-i.i m.n (omega arith) in
    let x = c.loop-i.invariant in
    omega arith
