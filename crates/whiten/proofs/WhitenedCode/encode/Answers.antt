use Rattle.std.proofs.Common.{take, ap, ◌∙◌}
use Rattle.code.proofs.Laws.{width_fits}
use Rattle.whiten.specs.WhiteningLemmas.{masked_front}
use Rattle.whiten.proofs.WhitenedCode.encode.Goals as goal

pub returns : goal.returns
returns g c h =
    let m = g.C.Code.meaning in
    ap (take m.w) c.masked.ensures
    ∙ masked_front m.w c.args.number c.encode.result (m.piece c.args.whole c.args.number) (width_fits m g.met.C.Code.lawful) (c.encode.ensures h)
