use Rattle.std.proofs.Common.{ap, ◌∙◌, ap₂, ◌*ℤ◌, w64, to_z, of_z, w32}
use Rattle.std.proofs.lemmas.Int.{to_z-of_z}
use Rattle.record.proofs.Scaling.{value_fits}
use Rattle.record.proofs.Whole.{number_width}
use Rattle.record.proofs.values.ten_thousandths.Goals as goal

pub returns : goal.returns
returns c =
    let n = c.args.number in
    let e = c.args.exponent in
    let factors =
    ap₂ (λ a b. a *ℤ b)
    (to_z-of_z w64 _ (record { sfits = c.from.type_inv }) ∙ c.from.ensures ∙ to_z-of_z w32 _ (number_width n))
    (to_z-of_z w64 _ (record { sfits = c.raised_power.type_inv }) ∙ c.raised_power.ensures) in
    ap (λ v. to_z w64 (of_z w64 v)) factors ∙ to_z-of_z w64 _ (value_fits n.value e.value n.low n.high e.low e.high)
