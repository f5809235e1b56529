use Rattle.std.proofs.Common.{◌<◌, refl, arith}
use Rattle.segment.proofs.Mailed.{collected}
use Rattle.segment.proofs.state.Post.collect.Goals as goal

pub returns : goal.returns
returns g c =
    let m = g.C.Code.meaning in
    let few = g.met.C.Code.lawful.few in
    let l : c.args.i < 8 = omega (arith, c.requires) in
    record {
      request = refl;
      mails = collected m c.args.self.now c.mark.new.self c.args.i c.requires (c.mark.ensures.fetched l) c.mark.ensures.nodes;
      fetched = c.mark.ensures.fetched l;
      answers = c.mark.ensures.answers m l;
    }
