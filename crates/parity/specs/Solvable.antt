-- When a matrix of factors gives a code: a test that is computed for each matrix.
use Rattle.std.specs.Prelude.{ℕ, ◌+◌, ◌*◌, Bool, ◌&&◌, List, [], ◌∷◌, length, ◌==◌, nat_le}
use Rattle.field.specs.Tested.{below}
use Rattle.field.specs.Matrix.{inverted, all_bytes, inverses}
use Rattle.parity.specs.Rows.{chosen_rows}

-- The test passes at any four numbers a < b < c < d below n.
abbrev pub each_four : ℕ → (List ℕ → Bool) → Bool
each_four n test = below (λ d. below (λ c. below (λ b. below (λ a. test (a ∷ b ∷ c ∷ d ∷ [])) b) c) d) n

-- There is a row of byte factors for each of 2 f + 4 nodes, at most eight, and of any four rows the computed inverse is one.
unfoldable pub solvable : List (List ℕ) → ℕ → Bool
solvable factors f =
    nat_le 1 f && (length factors == 2 * f + 4 && (nat_le (length factors) 8 && (all_bytes (length factors) factors
    && each_four (length factors) (λ is. inverses (chosen_rows factors is) (inverted (chosen_rows factors is))))))
