use Rattle.std.proofs.Common.{◌≡◌, [], ◌∷◌, get_or, refl, ◌∙◌, arith}
use Rattle.field.proofs.Lanes.{by_four}
use Rattle.field.specs.Polynomials.{byte, dot}
use Rattle.field.specs.Matrix.{entry}
use Rattle.parity.specs.Rows.{listed}
use Rattle.parity.specs.Sums.{dot_same}
use Rattle.parity.specs.Lists.{same_made}
use Rattle.parity.proofs.rows.Rows.combination.Goals as goal

pub returns : goal.returns
returns c =
    let words = c.word.result ∷ c.word-2.result ∷ c.word-3.result ∷ c.word-4.result ∷ [] in
    c.of_word.ensures
    ∙ same_made 6 (byte c.combined.result) (λ b. dot (λ j. get_or c.args.factors j 0) (λ j. entry (listed c.args.self) j b))
    (λ b h.
    c.combined.ensures b (omega arith)
    ∙ dot_same (λ j. get_or c.args.factors j 0) (λ j. get_or c.args.factors j 0) (λ j. byte (get_or words j 0) b) (λ j. entry (listed c.args.self) j b)
    (λ j hj. refl)
    (by_four (λ j. byte (get_or words j 0) b ≡ entry (listed c.args.self) j b)
    (c.word.ensures b h) (c.word-2.ensures b h) (c.word-3.ensures b h) (c.word-4.ensures b h)))
