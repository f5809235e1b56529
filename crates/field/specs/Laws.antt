-- The laws by which bytes are a field. The laws of the sum are those of exclusive or.
use Rattle.std.specs.Prelude.{◌≡◌, ℕ, ◌<◌, ◌≤◌, bit_xor}
use Rattle.field.specs.Polynomials.{unreduced, times, inverse}

pub record FieldLaws : Type 0 where
  -- a product of bytes is a byte
  pub closed : (a b : ℕ) → a < 256 → b < 256 → times a b < 256
  -- it is what the product of the polynomials leaves when a multiple of 285 is taken away
  pub remainder : (a b : ℕ) → a < 256 → b < 256 → (q : ℕ) × (unreduced a b ≡ bit_xor (unreduced q 285) (times a b))
  pub commutative : (a b : ℕ) → a < 256 → b < 256 → times a b ≡ times b a
  pub associative : (a b c : ℕ) → a < 256 → b < 256 → c < 256 → times (times a b) c ≡ times a (times b c)
  pub distributive : (a b c : ℕ) → a < 256 → b < 256 → c < 256 → times a (bit_xor b c) ≡ bit_xor (times a b) (times a c)
  pub neutral : (a : ℕ) → a < 256 → times 1 a ≡ a
  -- each byte but 0 has an inverse, which is a byte
  pub inverses : (a : ℕ) → 1 ≤ a → a < 256 → (inverse a < 256) × (times a (inverse a) ≡ 1)
