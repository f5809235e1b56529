use Rattle.std.proofs.Common.{◌≡◌, ℕ, T, List, [], ◌∷◌, length, get_or, sym, ap, ◌∙◌, subst, arith}
use Rattle.field.specs.Matrix.{inverted, inverses}
use Rattle.parity.specs.Rows.{chosen_rows}
use Rattle.parity.specs.Lists.{map_four, below_at}
use Rattle.parity.specs.Lawfully.{inverses_at}
use Rattle.parity.proofs.factors.Factors.solution.Goals as goal

four : (a b c d a' b' c' d' : List ℕ) → a ≡ a' → b ≡ b' → c ≡ c' → d ≡ d' → a ∷ b ∷ c ∷ d ∷ [] ≡ a' ∷ b' ∷ c' ∷ d' ∷ []
four a b c d a' b' c' d' ea eb ec ed = cc

pub returns : goal.returns
returns g c h =
    let m = g.Self.Factors.matrix in
    let is = c.args.numbers in
    let count = h.count in
    let taken : c.inverted.result ≡ inverted (chosen_rows m is) =
    c.inverted.ensures
    ∙ ap inverted
    (four _ _ _ _ (get_or m (get_or is 0 0) []) (get_or m (get_or is 1 0) []) (get_or m (get_or is 2 0) []) (get_or m (get_or is 3 0) [])
    (c.factors.ensures (below_at (length m) is h.below 0 (omega arith))) (c.factors-2.ensures (below_at (length m) is h.below 1 (omega arith)))
    (c.factors-3.ensures (below_at (length m) is h.below 2 (omega arith))) (c.factors-4.ensures (below_at (length m) is h.below 3 (omega arith)))
    ∙ sym (map_four (λ i. get_or m i []) is h.count)) in
    subst (λ s. T (inverses (chosen_rows m is) s)) (sym taken) (inverses_at m g.Self.Factors.F g.met.Self.Factors.solves is h)
