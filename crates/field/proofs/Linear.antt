-- What takes sums to sums, and is then given by its values at the powers of x.
use Rattle.std.proofs.Common.{◌≡◌, ℕ, zero, suc, ◌*◌, ◌/◌, ◌%◌, ◌^◌, ◌<◌, sym, ap, ◌∙◌, ap₂, le_of_suc-le-suc, not-suc-le-zero, add-zero, mod-lt, one-mul, pow-suc, div-add-mod', zero-mul, arith, pow_pos}
use lib.Bits.{bit_xor, xor_comm, xor_assoc, xor_self, xor_zero_r, xor_mod, xor_block, xor_shifted}

pub xor_swap : (a b c d : ℕ) → bit_xor (bit_xor a b) (bit_xor c d) ≡ bit_xor (bit_xor a c) (bit_xor b d)
xor_swap a b c d =
    xor_assoc a b (bit_xor c d)
    ∙ ap (bit_xor a) (sym (xor_assoc b c d) ∙ ap (λ x. bit_xor x d) (xor_comm b c) ∙ xor_assoc c b d)
    ∙ sym (xor_assoc a c (bit_xor b d))

abbrev pub Linear : (ℕ → ℕ) → Type 0
Linear f = (a b : ℕ) → f (bit_xor a b) ≡ bit_xor (f a) (f b)

pub of_zero : (f : ℕ → ℕ) → Linear f → f 0 ≡ 0
of_zero f l = let h : f 0 ≡ bit_xor (f 0) (f 0) = l 0 0 in h ∙ xor_self (f 0)

-- f and g, one after the other, and their sum
pub after : (f g : ℕ → ℕ) → Linear f → Linear g → Linear (λ a. f (g a))
after f g lf lg a b = ap f (lg a b) ∙ lf (g a) (g b)

pub plus : (f g : ℕ → ℕ) → Linear f → Linear g → Linear (λ a. bit_xor (f a) (g a))
plus f g lf lg a b = ap₂ bit_xor (lf a b) (lg a b) ∙ xor_swap (f a) (f b) (g a) (g b)

pub low : (n : ℕ) → n % 2 < 2
low n = mod-lt n (omega arith)

-- a bit times a number: linear in each
bit_times : (u v x : ℕ) → u < 2 → v < 2 → bit_xor u v * x ≡ bit_xor (u * x) (v * x)
bit_times zero v x hu hv = sym (ap (λ z. bit_xor z (v * x)) (zero-mul x))
bit_times (suc zero) zero x hu hv = sym (ap (bit_xor (1 * x)) (zero-mul x) ∙ xor_zero_r (1 * x))
bit_times (suc zero) (suc zero) x hu hv = zero-mul x ∙ sym (xor_self (1 * x))
bit_times (suc zero) (suc (suc v)) x hu hv = absurd (not-suc-le-zero (le_of_suc-le-suc (le_of_suc-le-suc hv)))
bit_times (suc (suc u)) v x hu hv = absurd (not-suc-le-zero (le_of_suc-le-suc (le_of_suc-le-suc hu)))

pub odd_times : (x : ℕ) → Linear (λ a. a % 2 * x)
odd_times x a b = ap (λ u. u * x) (xor_mod a b 1) ∙ bit_times (a % 2) (b % 2) x (low a) (low b)

pub times_bit : (u : ℕ) → u < 2 → Linear (λ a. u * a)
times_bit zero h a b = zero-mul (bit_xor a b) ∙ sym (ap₂ bit_xor (zero-mul a) (zero-mul b))
times_bit (suc zero) h a b = one-mul (bit_xor a b) ∙ sym (ap₂ bit_xor (one-mul a) (one-mul b))
times_bit (suc (suc u)) h a b = absurd (not-suc-le-zero (le_of_suc-le-suc (le_of_suc-le-suc h)))

pub up : (k : ℕ) → Linear (λ a. a * 2 ^ k)
up k a b =
    sym (sym (ap₂ bit_xor (add-zero (a * 2 ^ k)) (add-zero (b * 2 ^ k))) ∙ xor_block k a b 0 0 (pow_pos k) (pow_pos k) ∙ add-zero (bit_xor a b * 2 ^ k))

-- below 2^m: equal at the powers of x, so equal
at_bit : (f g : ℕ → ℕ) → Linear f → Linear g → f 1 ≡ g 1 → (u : ℕ) → u < 2 → f u ≡ g u
at_bit f g lf lg e zero h = of_zero f lf ∙ sym (of_zero g lg)
at_bit f g lf lg e (suc zero) h = e
at_bit f g lf lg e (suc (suc u)) h = absurd (not-suc-le-zero (le_of_suc-le-suc (le_of_suc-le-suc h)))

split : (x : ℕ) → bit_xor (x / 2 * 2) (x % 2) ≡ x
split x = xor_shifted (x / 2) 1 (x % 2) (low x) ∙ div-add-mod' x 2

pub by_bits : (m : ℕ) (f g : ℕ → ℕ) → Linear f → Linear g → ((i : ℕ) → i < m → f (2 ^ i) ≡ g (2 ^ i)) → (x : ℕ) → x < 2 ^ m → f x ≡ g x
by_bits zero f g lf lg e x h = let z : x ≡ 0 = omega arith in ap f z ∙ of_zero f lf ∙ sym (of_zero g lg) ∙ ap g (sym z)
by_bits (suc m) f g lf lg e x h =
    let below_half : x / 2 < 2 ^ m = (let p = pow-suc 2 m in omega arith) in
    let high : f (x / 2 * 2) ≡ g (x / 2 * 2) =
    by_bits m (λ y. f (y * 2)) (λ y. g (y * 2)) (after f (λ y. y * 2) lf (up 1)) (after g (λ y. y * 2) lg (up 1))
    (λ i hi. ap f (sym (pow-suc 2 i)) ∙ e (suc i) (omega arith) ∙ ap g (pow-suc 2 i)) (x / 2) below_half in
    ap f (sym (split x)) ∙ lf (x / 2 * 2) (x % 2)
    ∙ ap₂ bit_xor high (at_bit f g lf lg (e 0 (omega arith)) (x % 2) (low x))
    ∙ sym (lg (x / 2 * 2) (x % 2)) ∙ ap g (split x)
