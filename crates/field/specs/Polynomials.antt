-- The field of 256 elements. A byte is a polynomial over two elements: bit i is the coefficient of x^i, and a sum is an
-- exclusive or. Products are taken modulo x^8 + x^4 + x^3 + x^2 + 1, which is 285 as a number.
use Rattle.std.specs.Prelude.{ℕ, zero, suc, ◌*◌, ◌/◌, ◌%◌, ◌^◌, List, [], ◌∷◌, bit_xor}

-- The sum of f 0 to f (n - 1).
abbrev pub sum : ℕ → (ℕ → ℕ) → ℕ
sum zero f = 0
sum (suc n) f = bit_xor (sum n f) (f n)

-- The coefficient of x^i.
abbrev pub coefficient : ℕ → ℕ → ℕ
coefficient a i = a / 2 ^ i % 2

-- The product of polynomials, of which the first has eight coefficients, before it is reduced: a copy of b, i places up, for each coefficient of a.
unfoldable pub unreduced : ℕ → ℕ → ℕ
unreduced a b = sum 8 (λ i. coefficient a i * (b * 2 ^ i))

-- x times a: one place up, and 285 is taken away where that gives an x^8.
unfoldable pub twice : ℕ → ℕ
twice a = bit_xor (a * 2) (a / 128 % 2 * 285)

-- The product of b and the m lowest coefficients of a, by (x p + u) b = x (p b) + u b.
abbrev pub times_low : ℕ → ℕ → ℕ → ℕ
times_low zero a b = 0
times_low (suc m) a b = bit_xor (twice (times_low m (a / 2) b)) (a % 2 * b)

-- The product of two bytes.
unfoldable pub times : ℕ → ℕ → ℕ
times a b = times_low 8 a b

-- The sum of four products.
abbrev pub dot : (ℕ → ℕ) → (ℕ → ℕ) → ℕ
dot u v = sum 4 (λ j. times (u j) (v j))

-- The list of four values.
abbrev pub line : (ℕ → ℕ) → List ℕ
line f = f 0 ∷ f 1 ∷ f 2 ∷ f 3 ∷ []

-- a times a.
abbrev pub square : ℕ → ℕ
square a = times a a

-- a to the power 2^n.
abbrev pub squared : ℕ → ℕ → ℕ
squared zero a = a
squared (suc n) a = square (squared n a)

-- The product of a^2, a^4 and so on up to a to the power 2^n.
abbrev pub squares : ℕ → ℕ → ℕ
squares zero a = 1
squares (suc n) a = times (squares n a) (squared (suc n) a)

-- a to the power 254 = 2 + 4 + .. + 128, since a to the power 255 is 1 for each a but 0.
unfoldable pub inverse : ℕ → ℕ
inverse a = squares 7 a

-- Byte b of a word, the lowest first.
abbrev pub byte : ℕ → ℕ → ℕ
byte w b = w / 2 ^ (8 * b) % 256
