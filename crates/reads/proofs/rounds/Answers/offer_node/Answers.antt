use Rattle.std.proofs.Common.{◌≡◌, None, cond, [], ◌∷◌, get_or, drop, sym, refl, ap, ◌∙◌, arith, rules}
use Rattle.std.proofs.lemmas.List.{drop_all}
use Rattle.register.specs.Stamps.{lowest}
use Rattle.register.specs.Reading.{later, highest, node_stamps}
use Rattle.node.specs.Stamped.{stamp}
use Rattle.node.specs.Views.{node}
use Rattle.std.specs.Option.{option_map}
use Rattle.reads.specs.Views.{got, answer}
use Rattle.reads.specs.Finds.{found}
use Rattle.reads.proofs.Latest.{stamps_here, stamps_nowhere, left_none, along_more}
use Rattle.reads.proofs.rounds.Answers.offer_node.Goals as goal

pub returns-in_default : goal.returns-in_default
returns-in_default g c =
    let m = g.C.Code.meaning in
    let Q = got c.args.self.now in
    let a = answer m c.args.self.now in
    let r : c.at.result ≡ None = search rules in
    let e = stamps_nowhere (Q c.args.i) (a c.args.i) (sym (c.at.ensures m) ∙ ap (option_map (λ x. node m x.now)) r) in
    sym (left_none m Q a (stamp c.args.floor) (found c.args.found) (cond (Q c.args.i) (node_stamps (a c.args.i)) []) e)

pub loop-j-preserved : goal.loop-j-preserved
loop-j-preserved g c =
    let m = g.C.Code.meaning in
    let S = c.args.self.now in
    let Q = got S in
    let a = answer m S in
    let F = stamp c.args.floor in
    let ss = node_stamps (node m c.in-Some.node.now) in
    let e : found c.offer-best.result ≡ later (found c.loop-j.best) (highest m Q a F (get_or ss c.loop-j.j lowest ∷ [])) =
    c.offer-best.ensures ∙ ap (λ s. later (found c.loop-j.best) (highest m Q a F (s ∷ []))) c.stamp_at.ensures in
    along_more m Q a F (found c.loop-j.best) (found c.offer-best.result) ss c.loop-j.j (omega arith) e ∙ c.loop-j.invariant

pub returns : goal.returns
returns g c =
    let m = g.C.Code.meaning in
    let S = c.args.self.now in
    let Q = got S in
    let a = answer m S in
    let F = stamp c.args.floor in
    let ss = node_stamps (node m c.in-Some.node.now) in
    let e = stamps_here (Q c.args.i) (a c.args.i) (node m c.in-Some.node.now) (sym (c.at.ensures m) ∙ ap (option_map (λ x. node m x.now)) c.in-Some.is) in
    sym (left_none m Q a F (found c.loop-j.best) (drop c.loop-j.j ss) (drop_all c.loop-j.j ss (omega arith)))
    ∙ c.loop-j.invariant
    ∙ ap (λ v. later (found c.args.found) (highest m Q a F v)) (sym e)

pub loop-j-init : goal.loop-j-init
loop-j-init g c = refl
