use Rattle.std.proofs.Common.{refl}
use Rattle.segment.proofs.Mailed.{asked}
use Rattle.segment.proofs.state.Post.ask.Goals as goal

pub returns : goal.returns
returns g c =
    let m = g.C.Code.meaning in
    record {
      request = refl;
      mails = asked m c.args.request c.clear.new.self g.met.C.Code.lawful.few c.clear.ensures.fetched;
      fetched = c.clear.ensures.fetched;
      answers = c.clear.ensures.answers m;
    }
