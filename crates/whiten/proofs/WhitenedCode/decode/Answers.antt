use Rattle.std.proofs.Common.{◌*◌, take, sym, ap, ◌∙◌}
use Rattle.code.specs.Calls.{cut}
use Rattle.whiten.specs.Whitening.{all_masked}
use Rattle.whiten.proofs.WhitenedCode.decode.Goals as goal

pub returns : goal.returns
returns g c h =
    let m = g.C.Code.meaning in
    let w = c.width.ensures in
    let is = take m.k c.args.numbers in
    c.decode.ensures h
    ∙ ap (m.join is)
    (ap (λ v. cut m.k v c.all_masked.result) (sym w)
    ∙ c.all_masked.ensures m.k (ap (λ v. m.k * v) w ∙ g.met.C.Code.lawful.sizes)
    ∙ ap (λ v. all_masked m.k v is (cut m.k v c.args.parts)) w)
