-- Bytes are a field.
use Rattle.std.proofs.Common.{◌≡◌, ℕ, zero, suc, ◌+◌, ◌-◌, ◌*◌, ◌/◌, ◌%◌, ◌^◌, ◌<◌, ◌≤◌, Bool, eqb, ltb, sym, refl, ap, ◌∙◌, le_of_suc-le-suc, not-suc-le-zero, one-mul, zero-mul, div-one, arith, eqb→eq, ltb→lt}
use lib.Bits.{bit_xor, xor_shr, xor_lt}
use Rattle.std.proofs.lemmas.Nat.{shr-shr}
use Rattle.field.specs.Polynomials.{sum, coefficient, unreduced, twice, times_low, times, squared, squares, inverse}
use Rattle.field.specs.Laws.{FieldLaws}
use Rattle.field.specs.Tested.{below}
use Rattle.field.proofs.Tested.{at, same_below}
use Rattle.field.proofs.Linear.{Linear, after, plus, low, odd_times, times_bit, up, by_bits}

-- sums, doubles and products are linear

pub twice_linear : Linear twice
unfolding twice
twice_linear =
    plus (λ a. a * 2) (λ a. a / 128 % 2 * 285) (up 1) (after (λ a. a % 2 * 285) (λ a. a / 128) (odd_times 285) (λ a b. xor_shr a b 7))

pub times_low_linear_l : (m c : ℕ) → Linear (λ a. times_low m a c)
times_low_linear_l zero c = λ a b. refl
times_low_linear_l (suc m) c =
    plus (λ a. twice (times_low m (a / 2) c)) (λ a. a % 2 * c)
    (after twice (λ a. times_low m (a / 2) c) twice_linear (after (λ a. times_low m a c) (λ a. a / 2) (times_low_linear_l m c) (λ a b. xor_shr a b 1)))
    (odd_times c)

times_low_linear_r : (m a : ℕ) → Linear (times_low m a)
times_low_linear_r zero a = λ b c. refl
times_low_linear_r (suc m) a =
    plus (λ b. twice (times_low m (a / 2) b)) (λ b. a % 2 * b) (after twice (times_low m (a / 2)) twice_linear (times_low_linear_r m (a / 2))) (times_bit (a % 2) (low a))

pub times_linear_l : (c : ℕ) → Linear (λ a. times a c)
unfolding times
times_linear_l = times_low_linear_l 8

pub times_linear_r : (a : ℕ) → Linear (times a)
unfolding times
times_linear_r = times_low_linear_r 8

-- products of bytes are bytes

pub twice_byte : (a : ℕ) → a < 256 → twice a < 256
unfolding twice
twice_byte a h = ltb→lt (twice a) 256 (at (λ x. ltb (twice x) 256) 256 tt a h)

bit_byte : (u a : ℕ) → u < 2 → a < 256 → u * a < 256
bit_byte zero a hu h = omega (arith, zero-mul a)
bit_byte (suc zero) a hu h = omega (arith, one-mul a)
bit_byte (suc (suc u)) a hu h = absurd (not-suc-le-zero (le_of_suc-le-suc (le_of_suc-le-suc hu)))

times_low_byte : (m a b : ℕ) → b < 256 → times_low m a b < 256
times_low_byte zero a b h = omega arith
times_low_byte (suc m) a b h =
    xor_lt 8 (twice (times_low m (a / 2) b)) (a % 2 * b) (twice_byte (times_low m (a / 2) b) (times_low_byte m (a / 2) b h)) (bit_byte (a % 2) b (low a) h)

pub times_byte : (a b : ℕ) → b < 256 → times a b < 256
unfolding times
times_byte a b h = times_low_byte 8 a b h

-- commutative: 8 times 8 tests; associative: 8 times 8 times 8

swapped : (i j : ℕ) → i < 8 → j < 8 → times (2 ^ i) (2 ^ j) ≡ times (2 ^ j) (2 ^ i)
unfolding twice times
swapped i j hi hj =
    same_below (λ b. times (2 ^ i) (2 ^ b)) (λ b. times (2 ^ b) (2 ^ i)) 8
    (at (λ a. below (λ b. eqb (times (2 ^ a) (2 ^ b)) (times (2 ^ b) (2 ^ a))) 8) 8 tt i hi) j hj

pub times_comm : (a b : ℕ) → a < 256 → b < 256 → times a b ≡ times b a
times_comm a b ha hb =
    by_bits 8 (λ x. times x b) (times b) (times_linear_l b) (times_linear_r b)
    (λ i hi. by_bits 8 (times (2 ^ i)) (λ y. times y (2 ^ i)) (times_linear_r (2 ^ i)) (times_linear_l (2 ^ i)) (λ j hj. swapped i j hi hj) b hb) a ha

grouped_at : ℕ → ℕ → ℕ → Bool
grouped_at a b c = eqb (times (times (2 ^ a) (2 ^ b)) (2 ^ c)) (times (2 ^ a) (times (2 ^ b) (2 ^ c)))

grouped : (i j l : ℕ) → i < 8 → j < 8 → l < 8 → times (times (2 ^ i) (2 ^ j)) (2 ^ l) ≡ times (2 ^ i) (times (2 ^ j) (2 ^ l))
unfolding twice times grouped_at
grouped i j l hi hj hl =
    eqb→eq (times (times (2 ^ i) (2 ^ j)) (2 ^ l)) (times (2 ^ i) (times (2 ^ j) (2 ^ l)))
    (at (grouped_at i j) 8 (at (λ b. below (grouped_at i b) 8) 8 (at (λ a. below (λ b. below (grouped_at a b) 8) 8) 8 tt i hi) j hj) l hl)

pub times_assoc : (a b c : ℕ) → a < 256 → b < 256 → c < 256 → times (times a b) c ≡ times a (times b c)
times_assoc a b c ha hb hc =
    by_bits 8 (λ x. times (times x b) c) (λ x. times x (times b c))
    (after (λ x. times x c) (λ x. times x b) (times_linear_l c) (times_linear_l b)) (times_linear_l (times b c))
    (λ i hi. by_bits 8 (λ x. times (times (2 ^ i) x) c) (λ x. times (2 ^ i) (times x c))
    (after (λ x. times x c) (times (2 ^ i)) (times_linear_l c) (times_linear_r (2 ^ i)))
    (after (times (2 ^ i)) (λ x. times x c) (times_linear_r (2 ^ i)) (times_linear_l c))
    (λ j hj. by_bits 8 (times (times (2 ^ i) (2 ^ j))) (λ x. times (2 ^ i) (times (2 ^ j) x))
    (times_linear_r (times (2 ^ i) (2 ^ j)))
    (after (times (2 ^ i)) (times (2 ^ j)) (times_linear_r (2 ^ i)) (times_linear_r (2 ^ j)))
    (λ l hl. grouped i j l hi hj hl) c hc) b hb) a ha

pub one_times : (a : ℕ) → a < 256 → times 1 a ≡ a
unfolding twice times
one_times a h = same_below (times 1) (λ x. x) 256 tt a h

-- the product of polynomials, with the quotient by 285

quotient_low : ℕ → ℕ → ℕ → ℕ
quotient_low zero a b = 0
quotient_low (suc m) a b = bit_xor (quotient_low m (a / 2) b * 2) (times_low m (a / 2) b / 128 % 2 * 1)

quotient_linear_l : (m c : ℕ) → Linear (λ a. quotient_low m a c)
unfolding quotient_low
quotient_linear_l zero c = λ a b. refl
quotient_linear_l (suc m) c =
    let half : Linear (λ a. a / 2) = λ a b. xor_shr a b 1 in
    plus (λ a. quotient_low m (a / 2) c * 2) (λ a. times_low m (a / 2) c / 128 % 2 * 1)
    (after (λ q. q * 2) (λ a. quotient_low m (a / 2) c) (up 1) (after (λ a. quotient_low m a c) (λ a. a / 2) (quotient_linear_l m c) half))
    (after (λ p. p / 128 % 2 * 1) (λ a. times_low m (a / 2) c)
    (after (λ p. p % 2 * 1) (λ p. p / 128) (odd_times 1) (λ a b. xor_shr a b 7)) (after (λ a. times_low m a c) (λ a. a / 2) (times_low_linear_l m c) half))

quotient_linear_r : (m a : ℕ) → Linear (quotient_low m a)
unfolding quotient_low
quotient_linear_r zero a = λ b c. refl
quotient_linear_r (suc m) a =
    plus (λ b. quotient_low m (a / 2) b * 2) (λ b. times_low m (a / 2) b / 128 % 2 * 1)
    (after (λ q. q * 2) (quotient_low m (a / 2)) (up 1) (quotient_linear_r m (a / 2)))
    (after (λ p. p / 128 % 2 * 1) (times_low m (a / 2))
    (after (λ p. p % 2 * 1) (λ p. p / 128) (odd_times 1) (λ a b. xor_shr a b 7)) (times_low_linear_r m (a / 2)))

sum_linear : (n : ℕ) (f : ℕ → ℕ → ℕ) → ((i : ℕ) → Linear (λ a. f a i)) → Linear (λ a. sum n (f a))
sum_linear zero f l = λ a b. refl
sum_linear (suc n) f l = plus (λ a. sum n (f a)) (λ a. f a n) (sum_linear n f l) (l n)

unreduced_linear_l : (c : ℕ) → Linear (λ a. unreduced a c)
unfolding unreduced
unreduced_linear_l c =
    sum_linear 8 (λ a i. coefficient a i * (c * 2 ^ i))
    (λ i. after (λ a. a % 2 * (c * 2 ^ i)) (λ a. a / 2 ^ i) (odd_times (c * 2 ^ i)) (λ a b. xor_shr a b i))

unreduced_linear_r : (a : ℕ) → Linear (unreduced a)
unfolding unreduced
unreduced_linear_r a =
    sum_linear 8 (λ c i. coefficient a i * (c * 2 ^ i))
    (λ i. after (λ c. coefficient a i * c) (λ c. c * 2 ^ i) (times_bit (coefficient a i) (low (a / 2 ^ i))) (up i))

reduced : ℕ → ℕ → ℕ
reduced a b = bit_xor (unreduced (quotient_low 8 a b) 285) (times a b)

reduced_linear_l : (c : ℕ) → Linear (λ a. reduced a c)
unfolding reduced
reduced_linear_l c =
    plus (λ a. unreduced (quotient_low 8 a c) 285) (λ a. times a c)
    (after (λ q. unreduced q 285) (λ a. quotient_low 8 a c) (unreduced_linear_l 285) (quotient_linear_l 8 c)) (times_linear_l c)

reduced_linear_r : (a : ℕ) → Linear (reduced a)
unfolding reduced
reduced_linear_r a =
    plus (λ b. unreduced (quotient_low 8 a b) 285) (times a)
    (after (λ q. unreduced q 285) (quotient_low 8 a) (unreduced_linear_l 285) (quotient_linear_r 8 a)) (times_linear_r a)

powers_reduced : (i j : ℕ) → i < 8 → j < 8 → unreduced (2 ^ i) (2 ^ j) ≡ reduced (2 ^ i) (2 ^ j)
unfolding twice times unreduced quotient_low reduced
powers_reduced i j hi hj =
    same_below (λ b. unreduced (2 ^ i) (2 ^ b)) (λ b. reduced (2 ^ i) (2 ^ b)) 8
    (at (λ a. below (λ b. eqb (unreduced (2 ^ a) (2 ^ b)) (reduced (2 ^ a) (2 ^ b))) 8) 8 tt i hi) j hj

is_reduced : (a b : ℕ) → a < 256 → b < 256 → unreduced a b ≡ reduced a b
is_reduced a b ha hb =
    by_bits 8 (λ x. unreduced x b) (λ x. reduced x b) (unreduced_linear_l b) (reduced_linear_l b)
    (λ i hi. by_bits 8 (unreduced (2 ^ i)) (reduced (2 ^ i)) (unreduced_linear_r (2 ^ i)) (reduced_linear_r (2 ^ i)) (λ j hj. powers_reduced i j hi hj) b hb) a ha

leaves : (a b : ℕ) → a < 256 → b < 256 → (q : ℕ) × (unreduced a b ≡ bit_xor (unreduced q 285) (times a b))
unfolding reduced
leaves a b ha hb = (quotient_low 8 a b, is_reduced a b ha hb)

-- one coefficient more, from the highest down
pub horner : (i k a b : ℕ) → i ≡ k + 1 → k < 8 → bit_xor (twice (times_low (8 - i) (a / 2 ^ i) b)) (coefficient a k * b) ≡ times_low (8 - k) (a / 2 ^ k) b
horner i k a b e h =
    let here : 8 - k ≡ suc (8 - i) = omega arith in
    sym
    (ap (λ m. times_low m (a / 2 ^ k) b) here
    ∙ ap (λ p. bit_xor (twice (times_low (8 - i) p b)) (coefficient a k * b)) (shr-shr a k 1 ∙ ap (λ n. a / 2 ^ n) (sym e)))

pub horner_ends : (i a b : ℕ) → i ≡ 0 → times_low (8 - i) (a / 2 ^ i) b ≡ times a b
unfolding times
horner_ends i a b e = ap (λ k. times_low (8 - k) (a / 2 ^ k) b) e ∙ ap (λ p. times_low 8 p b) (div-one a)

-- inverses

inverse_of : ℕ → ℕ
inverse_of a = times (a + 1) (inverse (a + 1))

inverts : (a : ℕ) → a < 255 → inverse_of a ≡ 1
unfolding twice times inverse inverse_of
inverts a h = same_below inverse_of (λ x. 1) 255 tt a h

squared_byte : (n a : ℕ) → a < 256 → squared n a < 256
squared_byte zero a h = h
squared_byte (suc n) a h = times_byte (squared n a) (squared n a) (squared_byte n a h)

pub inverse_byte : (a : ℕ) → a < 256 → inverse a < 256
unfolding inverse
inverse_byte a h = times_byte (squares 6 a) (squared 7 a) (times_byte (squared 6 a) (squared 6 a) (squared_byte 6 a h))

times_inverse : (a : ℕ) → 1 ≤ a → a < 256 → times a (inverse a) ≡ 1
unfolding inverse_of
times_inverse a l h =
    let e : a ≡ (a - 1) + 1 = omega arith in
    ap (λ x. times x (inverse x)) e ∙ inverts (a - 1) (omega arith)

pub field_laws : FieldLaws
field_laws = record {
  closed = λ a b ha hb. times_byte a b hb;
  remainder = leaves;
  commutative = times_comm;
  associative = times_assoc;
  distributive = λ a b c ha hb hc. times_linear_r a b c;
  neutral = one_times;
  inverses = λ a l h. (inverse_byte a h, times_inverse a l h);
}
