use Rattle.std.proofs.Common.{rules, tests, arith, ◌≡◌, ◌∙◌, ℕ, ◌/◌, ◌%◌, ◌^◌, Bool, nat_eq, bit_and, List, map, take, Vec, vec_items, Result, IfOk}
use Rattle.std.specs.List.{range_with_len, zip, filter}
use Rattle.std.specs.declared.alloc.Global.{Global}
use Rattle.std.proofs.lemmas.List.Elements.{All-take, All-filter}
use Rattle.std.proofs.lemmas.Iterator.{YieldsList-from_slice, YieldsList-from_range, YieldsList-from_zip, YieldsList-from_take, YieldsList-from_map_by}
use Rattle.std.proofs.lemmas.Iterator.Consumers.{YieldsList-from_filter, YieldsList-at, map_from_collect}
use Rattle.std.proofs.lemmas.Result.{IfOk-weaker}
use Rattle.code.specs.declared.calls.Piece.{Piece}
use Rattle.code.specs.Meaning.{Meaning}
use Rattle.spread.specs.Trials.{Picked}
use Rattle.spread.proofs.Spreads.{shown, holding, Holds, numbered, of_numbered}
use Rattle.spread.proofs.trials.Nodes.chosen.Goals as goal

-- the first k of those that pass
picked : {E : Type 0} (m : Meaning) (pieces : List (Vec ℕ Global)) (up : ℕ × Vec ℕ Global → Bool) (r : Result (Vec Piece Global) E)
    → IfOk r (λ v. map shown (vec_items v) ≡ map holding (take m.k (filter up (zip (range_with_len 0 m.n) pieces)))) → IfOk r (λ v. Picked m pieces (vec_items v))
picked m pieces up r =
    let all = zip (range_with_len 0 m.n) pieces in
    IfOk-weaker r (λ v. map shown (vec_items v) ≡ map holding (take m.k (filter up all))) (λ v. Picked m pieces (vec_items v))
    (λ v h x s.
    let P = Holds (m.piece x) in
    of_numbered (m.piece x) (vec_items v) (take m.k (filter up all)) (All-take P m.k (filter up all) (All-filter up P all (numbered (m.piece x) 0 m.n pieces s))) h)

pub returns : goal.returns
returns g c =
    let m = g.C.Code.meaning in
    let pieces = c.args.self.now.pieces.items in
    let up : ℕ × Vec ℕ Global → Bool = λ e. nat_eq (bit_and (c.args.silent / 2 ^ (e.0 % 32)) 1) 0 in
    picked m pieces up c.collect.result
    (map_from_collect c.collect.result c.collect.ensures.ran
    (YieldsList-from_map_by _ shown holding
    (YieldsList-at c.map.ensures.source
    (YieldsList-from_take m.k
    (YieldsList-at c.take.ensures.source
    (YieldsList-from_filter _ up
    (YieldsList-at c.filter.ensures.source (YieldsList-from_zip (YieldsList-from_range 0 m.n m.n (search rules) (omega arith)) (YieldsList-from_slice pieces (search rules))))
    c.filter.ensures.closure
    (λ x b q k. search (rules, tests))))
    (c.take.ensures.count ∙ c.K.ensures ∙ g.met.C.Code.k_is)))
    c.map.ensures.closure
    (λ x r q k. search rules)))
