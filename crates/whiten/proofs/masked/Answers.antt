use Rattle.std.proofs.Common.{ℕ, get_or, rules}
use lib.Bits.{bit_xor}
use Rattle.code.proofs.FromFn.{made_at}
use Rattle.std.proofs.lemmas.List.FromFn.{fill_by_all}
use Rattle.whiten.specs.Whitening.{mask}
use Rattle.whiten.proofs.masked.Goals as goal

pub returns : goal.returns
returns c =
    let made = c.from_fn.ensures.items in
    let white : ℕ → ℕ = λ b. bit_xor (get_or c.args.piece b 0) (mask c.args.number b) in
    fill_by_all white c.from_fn.result 24 0 made.long (λ j h. made_at _ _ white (λ i y q call. search rules) c.from_fn.result 24 made j 0 h)
