use Rattle.std.proofs.Common.{◌/◌, ◌%◌, get_or, rules}
use lib.Bits.{bit_xor}
use Rattle.code.proofs.FromFn.{made_at}
use Rattle.whiten.specs.Whitening.{mask}
use Rattle.whiten.specs.WhiteningLemmas.{parts_masked}
use Rattle.whiten.proofs.all_masked.Goals as goal

pub returns : goal.returns
returns c k size =
    let made = c.from_fn.ensures.items in
    let w = c.args.w in
    parts_masked k w c.args.numbers c.args.parts c.from_fn.result size made.long
    (λ j h.
    made_at _ _ (λ t. bit_xor (get_or c.args.parts t 0) (mask (get_or c.args.numbers (t / w) 0) (t % w))) (λ i y q call. search rules) c.from_fn.result 24 made j 0 h)
