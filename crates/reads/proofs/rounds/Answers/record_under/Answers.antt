use Rattle.std.proofs.Common.{◌≤◌, length, sym, ◌∙◌, arith, rules}
use Rattle.node.specs.Stamped.{stamp}
use Rattle.node.specs.Picked.{parts}
use Rattle.reads.specs.Views.{got, answer}
use Rattle.reads.proofs.Under.{record_whole, too_few, enough, may_join}
use Rattle.reads.proofs.rounds.Answers.record_under.Goals as goal

pub returns-in-Some : goal.returns-in-Some
returns-in-Some g c =
    let m = g.C.Code.meaning in
    let S = c.args.self.now in
    c.lying_in.ensures ∙ sym (record_whole m (got S) (answer m S) (stamp c.args.stamp) _ (search rules))

pub returns-then-len-K : goal.returns-then-len-K
returns-then-len-K g c =
    let m = g.C.Code.meaning in
    let S = c.args.self.now in
    let k = c.K.ensures ∙ g.met.C.Code.k_is in
    sym (too_few m (got S) (answer m S) (stamp c.args.stamp) (parts m c.gather-parts.result) c.gather-parts.ensures (search rules) (omega arith))

pub returns : goal.returns
returns g c =
    let m = g.C.Code.meaning in
    let S = c.args.self.now in
    let k = c.K.ensures ∙ g.met.C.Code.k_is in
    let l : m.k ≤ length (parts m c.gather-parts.result) = omega arith in
    let j = may_join m (got S) (answer m S) (stamp c.args.stamp) (parts m c.gather-parts.result) c.gather-parts.ensures l in
    c.lying_in-2.ensures
    ∙ sym (enough m (got S) (answer m S) (stamp c.args.stamp) (parts m c.gather-parts.result) c.gather-parts.ensures (search rules) l c.joined-joined.result (c.joined-joined.ensures j))
