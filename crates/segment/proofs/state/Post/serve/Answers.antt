use Rattle.std.proofs.Common.{sym, refl, ap, arith}
use Rattle.register.specs.Machine.{served}
use Rattle.node.specs.Views.{node}
use Rattle.segment.specs.Views.{request_as}
use Rattle.segment.proofs.Served.{looked, stored, settled}
use Rattle.segment.proofs.state.Post.serve.Goals as goal

pub returns-in-Look : goal.returns-in-Look
unfolding served
returns-in-Look g c =
    let m = g.C.Code.meaning in
    let few = g.met.C.Code.lawful.few in
    let p = c.args.self.now in
    let i = c.args.i in
    let inside = c.requires.there in
    let h = looked m p i inside (omega (arith, inside)) c.requires.waits c.args.node.now c.show.new.self c.in-Look.is (c.show.ensures.long (omega (arith, inside))) (c.show.ensures.shown (omega (arith, inside))) in
    record {
      node = sym (ap (λ r. served m i (request_as r p.request) (node m c.args.node.now)) c.in-Look.is);
      request = refl;
      mails = h.mails;
      fetched = h.fetched;
      answers = h.answers;
    }

pub returns-in-Store : goal.returns-in-Store
unfolding served
returns-in-Store g c =
    let m = g.C.Code.meaning in
    let few = g.met.C.Code.lawful.few in
    let p = c.args.self.now in
    let i = c.args.i in
    let inside = c.requires.there in
    let h = stored m p i inside (omega (arith, inside)) c.requires.waits (node m c.args.node.now) c.in-Store.is in
    record {
      node = c.carry_out.ensures;
      request = refl;
      mails = h.mails;
      fetched = h.fetched;
      answers = h.answers;
    }

pub returns-in-Settle : goal.returns-in-Settle
unfolding served
returns-in-Settle g c =
    let m = g.C.Code.meaning in
    let few = g.met.C.Code.lawful.few in
    let p = c.args.self.now in
    let i = c.args.i in
    let inside = c.requires.there in
    let h = settled m p i inside (omega (arith, inside)) c.requires.waits (node m c.args.node.now) c.in-Settle.is in
    record {
      node = c.carry_out-in-Settle.ensures;
      request = refl;
      mails = h.mails;
      fetched = h.fetched;
      answers = h.answers;
    }
