-- Eight bytes at once: what a word's arithmetic does to each of its bytes.
use Rattle.std.proofs.Common.{◌≡◌, ℕ, zero, suc, ◌+◌, ◌-◌, ◌*◌, ◌/◌, ◌%◌, ◌^◌, ◌<◌, List, get_or, sym, refl, ap, ◌∙◌, ap₂, le_of_suc-le-suc, not-suc-le-zero, mod-eq_of_lt, one-mul, zero-mul, div-one, arith}
use native.Mathlib.Nat.{zero-div, div-eq_of_lt}
use lib.Bits.{bit_and, bit_xor, and_le_r, and_block, and_mask, xor_block, xor_shr, xor_mod, xor_zero_r}
use Rattle.std.proofs.lemmas.Nat.{shr-shr}
use Rattle.std.specs.List.{fold}
use Rattle.field.specs.Polynomials.{sum, coefficient, twice, times_low, times, dot, line, byte}
use Rattle.field.proofs.Tested.{same_below}
use Rattle.field.proofs.Linear.{Linear, after, low, of_zero, xor_swap}
use Rattle.field.proofs.Proved.{twice_linear, times_low_linear_l, twice_byte, horner, horner_ends}

-- what holds at the first four places
pub by_four : (P : ℕ → Type 0) → P 0 → P 1 → P 2 → P 3 → (j : ℕ) → j < 4 → P j
by_four P a b c d zero h = a
by_four P a b c d (suc zero) h = b
by_four P a b c d (suc (suc zero)) h = c
by_four P a b c d (suc (suc (suc zero))) h = d
by_four P a b c d (suc (suc (suc (suc j)))) h = absurd (omega arith)

-- n bytes that are each 1
ones : ℕ → ℕ
ones zero = 0
ones (suc n) = ones n * 256 + 1

each : ℕ → ℕ → ℕ
each n w = bit_xor (bit_and w (ones n * 127) * 2) (bit_and (w / 128) (ones n) * 29)

pub last_byte : (r : ℕ) → r < 256 → bit_xor (bit_and r 127 * 2) (r / 128 * 29) ≡ twice r
unfolding twice
last_byte r h = same_below (λ x. bit_xor (bit_and x 127 * 2) (x / 128 * 29)) twice 256 tt r h

low_bits : (n w r : ℕ) → r < 256 → bit_and (w * 256 + r) (ones (suc n) * 127) * 2 ≡ bit_and w (ones n * 127) * 2 * 256 + bit_and r 127 * 2
unfolding ones
low_bits n w r h =
    let m : ones (suc n) * 127 ≡ ones n * 127 * 256 + 127 = omega arith in
    let b = and_block 8 w (ones n * 127) r 127 h (omega arith) in
    ap (λ x. bit_and (w * 256 + r) x * 2) m ∙ ap (λ x. x * 2) b ∙ (omega arith)

top_bits : (n w r : ℕ) → r < 256 → bit_and ((w * 256 + r) / 128) (ones (suc n)) * 29 ≡ bit_and (w / 128) (ones n) * 29 * 256 + r / 128 * 29
unfolding ones
top_bits n w r h =
    let last = w % 128 * 2 + r / 128 in
    let parts : (w * 256 + r) / 128 ≡ w / 128 * 256 + (w % 128 * 2 + r / 128) = omega arith in
    let odd : (w % 128 * 2 + r / 128) % 2 ≡ r / 128 = omega arith in
    let b = and_block 8 (w / 128) (ones n) (w % 128 * 2 + r / 128) 1 (omega arith) (omega arith) in
    ap (λ x. bit_and x (ones n * 256 + 1) * 29) parts ∙ ap (λ x. x * 29) b
    ∙ ap (λ x. (bit_and (w / 128) (ones n) * 256 + x) * 29) (and_mask last 1 ∙ odd) ∙ (omega arith)

each_more : (n w r : ℕ) → r < 256 → each (suc n) (w * 256 + r) ≡ each n w * 256 + twice r
unfolding each
each_more n w r h =
    let a = bit_and w (ones n * 127) * 2 in
    let c : bit_and r 127 * 2 < 256 = (let m = and_mask r 7 in omega arith) in
    ap₂ bit_xor (low_bits n w r h) (top_bits n w r h)
    ∙ xor_block 8 a (bit_and (w / 128) (ones n) * 29) (bit_and r 127 * 2) (r / 128 * 29) c (omega arith)
    ∙ ap (λ x. bit_xor a (bit_and (w / 128) (ones n) * 29) * 256 + x) (last_byte r h)

byte_next : (w b : ℕ) → byte w (suc b) ≡ byte (w / 256) b
byte_next w b = let e : 8 + 8 * b ≡ 8 * suc b = omega arith in ap (λ x. x % 256) (sym (shr-shr w 8 (8 * b) ∙ ap (λ k. w / 2 ^ k) e))

byte_first : (w : ℕ) → byte w 0 ≡ w % 256
byte_first w = ap (λ x. x % 256) (div-one w)

byte_each : (n w b : ℕ) → b < n → byte (each n w) b ≡ twice (byte w b)
byte_each zero w b h = absurd (not-suc-le-zero h)
byte_each (suc n) w zero h =
    let e : w / 256 * 256 + w % 256 ≡ w = omega arith in
    let l = twice_byte (w % 256) (omega arith) in
    let m : (each n (w / 256) * 256 + twice (w % 256)) % 256 ≡ twice (w % 256) = omega arith in
    byte_first (each (suc n) w) ∙ ap (λ x. each (suc n) x % 256) (sym e)
    ∙ ap (λ x. x % 256) (each_more n (w / 256) (w % 256) (omega arith)) ∙ m ∙ ap twice (sym (byte_first w))
byte_each (suc n) w (suc b) h =
    let e : w / 256 * 256 + w % 256 ≡ w = omega arith in
    let l = twice_byte (w % 256) (omega arith) in
    let d : (each n (w / 256) * 256 + twice (w % 256)) / 256 ≡ each n (w / 256) = omega arith in
    byte_next (each (suc n) w) b ∙ ap (λ x. byte (each (suc n) x / 256) b) (sym e)
    ∙ ap (λ x. byte (x / 256) b) (each_more n (w / 256) (w % 256) (omega arith)) ∙ ap (λ x. byte x b) d
    ∙ byte_each n (w / 256) b (le_of_suc-le-suc h) ∙ ap twice (sym (byte_next w b))

pub doubled : (w x b : ℕ) → x ≡ bit_and (w / 128) 0x0101010101010101 * 29 → b < 8 → byte (bit_xor (bit_and w 0x7f7f7f7f7f7f7f7f * 2 % 18446744073709551616) x) b ≡ twice (byte w b)
unfolding ones each
doubled w x b e h =
    let le = and_le_r w 0x7f7f7f7f7f7f7f7f in
    ap (λ y. byte y b) (ap₂ bit_xor (mod-eq_of_lt (omega arith)) e) ∙ byte_each 8 w b h

-- sums of words, byte by byte

pub byte_linear : (b : ℕ) → Linear (λ w. byte w b)
byte_linear b = after (λ w. w % 256) (λ w. w / 2 ^ (8 * b)) (λ x y. xor_mod x y 8) (λ x y. xor_shr x y (8 * b))

byte_bit : (u w b : ℕ) → u < 2 → byte (u * w) b ≡ u * byte w b
byte_bit zero w b h = ap (λ x. byte x b) (zero-mul w) ∙ ap (λ x. x % 256) (zero-div (2 ^ (8 * b))) ∙ sym (zero-mul (byte w b))
byte_bit (suc zero) w b h = ap (λ x. byte x b) (one-mul w) ∙ sym (one-mul (byte w b))
byte_bit (suc (suc u)) w b h = absurd (not-suc-le-zero (le_of_suc-le-suc (le_of_suc-le-suc h)))

pub sum_same : (n : ℕ) (f g : ℕ → ℕ) → ((j : ℕ) → j < n → f j ≡ g j) → sum n f ≡ sum n g
sum_same zero f g e = refl
sum_same (suc n) f g e = ap₂ bit_xor (sum_same n f g (λ j h. e j (omega arith))) (e n (omega arith))

pub sum_xor : (n : ℕ) (f g : ℕ → ℕ) → sum n (λ j. bit_xor (f j) (g j)) ≡ bit_xor (sum n f) (sum n g)
sum_xor zero f g = refl
sum_xor (suc n) f g = ap (λ x. bit_xor x (bit_xor (f n) (g n))) (sum_xor n f g) ∙ xor_swap (sum n f) (sum n g) (f n) (g n)

pub of_sum : (f : ℕ → ℕ) → Linear f → (n : ℕ) (g : ℕ → ℕ) → f (sum n g) ≡ sum n (λ j. f (g j))
of_sum f l zero g = of_zero f l
of_sum f l (suc n) g = l (sum n g) (g n) ∙ ap (λ x. bit_xor x (f (g n))) (of_sum f l n g)

pub sum_none : (n : ℕ) → sum n (λ j. 0) ≡ 0
sum_none zero = refl
sum_none (suc n) = xor_zero_r (sum n (λ j. 0)) ∙ sum_none n

-- the sum of the products of four factors and byte b of four words, by the coefficients of the factors from x^i on
pub high : List ℕ → List ℕ → ℕ → ℕ → ℕ
high us ws b i = sum 4 (λ j. times_low (8 - i) (get_or us j 0 / 2 ^ i) (byte (get_or ws j 0) b))

pub high_starts : (us ws : List ℕ) (b i : ℕ) → ((j : ℕ) → j < 4 → get_or us j 0 < 2 ^ i) → byte 0 b ≡ high us ws b i
unfolding high
high_starts us ws b i small =
    ap (λ x. x % 256) (zero-div (2 ^ (8 * b))) ∙ sym (sum_none 4)
    ∙ sum_same 4 (λ j. 0) (λ j. times_low (8 - i) (get_or us j 0 / 2 ^ i) (byte (get_or ws j 0) b))
    (λ j h.
    let of : ℕ → ℕ = λ p. times_low (8 - i) p (byte (get_or ws j 0) b) in
    sym (ap of (div-eq_of_lt (small j h)) ∙ of_zero of (times_low_linear_l (8 - i) (byte (get_or ws j 0) b))))

-- one more coefficient
pub high_more : (us ws : List ℕ) (b i k acc twofold more : ℕ) → i ≡ k + 1 → k < 8 → byte acc b ≡ high us ws b i → byte twofold b ≡ twice (byte acc b)
    → more ≡ fold bit_xor 0 (line (λ j. coefficient (get_or us j 0) k * get_or ws j 0)) → byte (bit_xor twofold more) b ≡ high us ws b k
unfolding high
high_more us ws b i k acc twofold more e h before d m =
    let v : ℕ → ℕ = λ j. byte (get_or ws j 0) b in
    let above : ℕ → ℕ = λ j. times_low (8 - i) (get_or us j 0 / 2 ^ i) (v j) in
    let u : ℕ → ℕ = λ j. coefficient (get_or us j 0) k in
    let word : ℕ → ℕ = λ j. u j * get_or ws j 0 in
    byte_linear b twofold more
    ∙ ap₂ bit_xor (d ∙ ap twice before ∙ of_sum twice twice_linear 4 above)
    (ap (λ x. byte x b) m ∙ of_sum (λ x. byte x b) (byte_linear b) 4 word
    ∙ sum_same 4 (λ j. byte (word j) b) (λ j. u j * v j) (λ j hj. byte_bit (u j) (get_or ws j 0) b (low (get_or us j 0 / 2 ^ k))))
    ∙ sym (sum_xor 4 (λ j. twice (above j)) (λ j. u j * v j))
    ∙ sum_same 4 (λ j. bit_xor (twice (above j)) (u j * v j)) (λ j. times_low (8 - k) (get_or us j 0 / 2 ^ k) (v j)) (λ j hj. horner i k (get_or us j 0) (v j) e h)

pub high_ends : (us ws : List ℕ) (b i : ℕ) → i ≡ 0 → high us ws b i ≡ dot (λ j. get_or us j 0) (λ j. byte (get_or ws j 0) b)
unfolding high
high_ends us ws b i e =
    sum_same 4 (λ j. times_low (8 - i) (get_or us j 0 / 2 ^ i) (byte (get_or ws j 0) b)) (λ j. times (get_or us j 0) (byte (get_or ws j 0) b))
    (λ j h. horner_ends i (get_or us j 0) (byte (get_or ws j 0) b) e)
