-- Codes by a matrix of factors. A record is four rows of six bytes, and a piece is a sum of the rows, each times a factor.
use Rattle.std.specs.Prelude.{ℕ, ◌+◌, ◌*◌, ◌/◌, ◌%◌, List, [], ◌∷◌, map, length, get_or, slice_index, slice_index_or}
use Rattle.std.specs.List.{range_with_len}
use Rattle.code.specs.Meaning.{Meaning}
use Rattle.field.specs.Polynomials.{dot}
use Rattle.parity.specs.declared.rows.Rows.{Rows}
use Rattle.field.specs.Matrix.{entry, inverted}

-- Six bytes, from the value at each place.
abbrev pub six : (ℕ → ℕ) → List ℕ
six f = map f (range_with_len 0 6)

-- Byte b of row j of 24 bytes.
abbrev pub row_byte : List ℕ → ℕ → ℕ → ℕ
row_byte x j b = slice_index x (j * 6 + b)

-- The four rows of 24 bytes.
abbrev pub rows_of : List ℕ → Rows
rows_of x = record {
  first = record { bytes = six (row_byte x 0) };
  second = record { bytes = six (row_byte x 1) };
  third = record { bytes = six (row_byte x 2) };
  fourth = record { bytes = six (row_byte x 3) };
}

-- The bytes of each row.
abbrev pub listed : Rows → List (List ℕ)
listed rows = rows.first.bytes ∷ rows.second.bytes ∷ rows.third.bytes ∷ rows.fourth.bytes ∷ []

-- The rows, one after the other.
abbrev pub flat : List (List ℕ) → List ℕ
flat rows = map (λ t. entry rows (t / 6) (t % 6)) (range_with_len 0 24)

-- The sum of four rows, each times its factor.
abbrev pub combination : List ℕ → List (List ℕ) → List ℕ
combination factors rows = six (λ b. dot (λ j. slice_index factors j) (λ j. entry rows j b))

-- The four sums of four rows that a matrix has the factors of.
abbrev pub combinations : List (List ℕ) → List (List ℕ) → List (List ℕ)
combinations m rows =
    combination (slice_index_or m 0 []) rows ∷ combination (slice_index_or m 1 []) rows ∷ combination (slice_index_or m 2 []) rows ∷ combination (slice_index_or m 3 []) rows ∷ []

-- The rows of a record from its pieces, where the matrix undoes the factors of these pieces.
abbrev pub solved : List (List ℕ) → List (List ℕ) → List ℕ
solved solution pieces = map (λ t. dot (entry solution (t / 6)) (λ j. entry pieces j (t % 6))) (range_with_len 0 24)

-- The factors of the pieces with these numbers.
abbrev pub chosen_rows : List (List ℕ) → List ℕ → List (List ℕ)
chosen_rows factors is = map (λ i. get_or factors i []) is

-- The code of a matrix with a row of factors for each node, of which f may be silent.
abbrev pub row_code : List (List ℕ) → ℕ → Meaning
row_code factors f = record {
  k = 4;
  n = length factors;
  f = f;
  w = 6;
  piece = λ x i. six (λ b. dot (entry factors i) (λ j. row_byte x j b));
  join = λ is ps. solved (inverted (chosen_rows factors is)) ps;
}
