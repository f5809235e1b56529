use Rattle.std.proofs.Common.{◌≡◌, ℕ, ◌<◌, length, get_or, take, sym, ◌∙◌, arith, rules}
use lib.ListN.{length-map}
use Rattle.std.proofs.lemmas.List.{ext_get_or, get_or-map, get_or-take, length-take-le}
use Rattle.code.specs.Calls.{number_of, numbers_of}
use Rattle.code.proofs.Default.{none}
use Rattle.code.proofs.calls.gather_numbers.Goals as goal

pub returns : goal.returns
returns c =
    let ps = c.args.pieces.now in
    let n = length ps in
    let ys = c.from_fn.result in
    let size : length ys ≡ 8 = c.from_fn.ensures.items.long in
    let value : (k : ℕ) → k < n → get_or ys k 0 ≡ number_of (get_or ps k none) =
    λ k h. let call = (c.from_fn.ensures.items.at k 0 (omega (arith, c.requires))) in search rules in
    let long : length (take n ys) ≡ n = length-take-le n ys (omega (arith, c.requires)) in
    ext_get_or 0 (take n ys) (numbers_of ps) (long ∙ sym (length-map ps number_of))
    (λ k h.
    let inside : k < n = omega (arith, long) in
    get_or-take n ys k 0 inside ∙ value k inside ∙ sym (get_or-map number_of ps k none 0 inside))
