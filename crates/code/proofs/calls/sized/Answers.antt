use Rattle.std.proofs.Common.{length, nat_eq, rules, sym, ◌∙◌}
use borrow.Author.Tests.{tests}
use Rattle.std.proofs.lemmas.Iterator.{YieldsList-from_slice}
use Rattle.std.proofs.lemmas.Iterator.Search.{all_from_yields_List}
use Rattle.std.proofs.lemmas.List.Folds.{list_all-map}
use Rattle.code.specs.Calls.{bytes_of}
use Rattle.code.proofs.calls.sized.Goals as goal

pub returns : goal.returns
returns c =
    all_from_yields_List (λ p. nat_eq (length (bytes_of p)) c.args.w) _ _ _ c.all.ensures.ran (YieldsList-from_slice c.args.pieces.now c.iter.ensures.rest)
    (λ x b q k. search (rules, tests))
    ∙ sym (list_all-map (λ bs. nat_eq (length bs) c.args.w) bytes_of c.args.pieces.now)
