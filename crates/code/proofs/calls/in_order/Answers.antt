use Rattle.std.proofs.Common.{rules}
use Rattle.std.proofs.lemmas.List.Sorted.{answers_always}
use Rattle.code.specs.Calls.{number_of}
use Rattle.code.proofs.Scan.{in_order, adjacent_rises}
use Rattle.code.proofs.calls.in_order.Goals as goal

pub returns : goal.returns
returns c =
    adjacent_rises number_of c.args.pieces.now c.is_sorted_by.result
    (c.is_sorted_by.ensures.cases (in_order number_of) (answers_always _ _ _ (λ a r q k. search rules)))
