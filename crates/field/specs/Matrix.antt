-- Matrices of four rows and four columns over the field of bytes, as lists of their rows.
use Rattle.std.specs.Prelude.{ℕ, ◌+◌, Bool, cond, ◌&&◌, List, [], ◌∷◌, ◌==◌, bit_xor, nat_eq, nat_lt, slice_index, slice_index_or}
use Rattle.field.specs.Tested.{below}
use Rattle.field.specs.Polynomials.{times, dot, line, inverse}

-- The number in row r and column c.
abbrev pub entry : List (List ℕ) → ℕ → ℕ → ℕ
entry m r c = slice_index (slice_index_or m r []) c

-- The matrix with these entries.
abbrev pub grid : (ℕ → ℕ → ℕ) → List (List ℕ)
grid f = line (f 0) ∷ line (f 1) ∷ line (f 2) ∷ line (f 3) ∷ []

-- The entries of the unit matrix.
abbrev pub unit : ℕ → ℕ → ℕ
unit r c = cond (r == c) 1 0

-- The place that is at i once place r is left out.
abbrev pub skip : ℕ → ℕ → ℕ
skip r i = cond (nat_lt i r) i (i + 1)

-- The determinant of two rows and columns. A sum is its own opposite here, so determinants have no signs.
abbrev pub det2 : (ℕ → ℕ → ℕ) → ℕ → ℕ → ℕ
det2 f a b = bit_xor (times (f 1 a) (f 2 b)) (times (f 1 b) (f 2 a))

-- The determinant of three rows and columns.
abbrev pub det3 : (ℕ → ℕ → ℕ) → ℕ
det3 f = bit_xor (bit_xor (times (f 0 0) (det2 f 1 2)) (times (f 0 1) (det2 f 0 2))) (times (f 0 2) (det2 f 0 1))

-- The determinant of what is left without row r and column c.
abbrev pub minor : List (List ℕ) → ℕ → ℕ → ℕ
minor m r c = det3 (λ i j. entry m (skip r i) (skip c j))

-- The determinant.
abbrev pub det : List (List ℕ) → ℕ
det m = dot (entry m 0) (minor m 0)

-- The inverse, by its minors and the determinant.
unfoldable pub inverted : List (List ℕ) → List (List ℕ)
inverted m = grid (λ r c. times (minor m c r) (inverse (det m)))

-- The product of a and b is the unit matrix.
abbrev pub undone : List (List ℕ) → List (List ℕ) → Bool
undone a b = below (λ r. below (λ c. nat_eq (dot (entry a r) (λ j. entry b j c)) (unit r c)) 4) 4

-- The first n rows hold bytes.
abbrev pub all_bytes : ℕ → List (List ℕ) → Bool
all_bytes n m = below (λ r. below (λ c. nat_lt (entry m r c) 256) 4) n

-- The matrix s holds bytes and is the inverse of m, on both sides.
abbrev pub inverses : List (List ℕ) → List (List ℕ) → Bool
inverses m s = all_bytes 4 s && (undone m s && undone s m)
