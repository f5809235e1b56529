use Rattle.std.proofs.Common.{◌≡◌, true, false, refl, rules}
use Rattle.segment.specs.Views.{tag}
use Rattle.segment.specs.Waits.{is_waiting}
use Rattle.segment.proofs.Served.{no_visit, visited}
use Rattle.segment.proofs.state.Entry.take.Goals as goal

pub returns-then-not-is_waiting : goal.returns-then-not-is_waiting
returns-then-not-is_waiting g c =
    let x = c.args.self.now in
    let w : is_waiting (tag x.post c.args.i) ≡ false = search rules in
    no_visit g.C.Code.meaning c.args.i x c.requires c.args.node.now w

pub returns : goal.returns
returns g c =
    let x = c.args.self.now in
    let w : is_waiting (tag x.post c.args.i) ≡ true = search rules in
    visited g.C.Code.meaning c.args.i x c.requires c.args.node.now c.serve.new.node c.serve.new.self c.serve.new.self.request.round w
    c.serve.ensures.node c.serve.ensures.request refl
    (record { mails = c.serve.ensures.mails; fetched = c.serve.ensures.fetched; answers = c.serve.ensures.answers })
