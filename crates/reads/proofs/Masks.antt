-- A byte as a set of nodes: its one bits.
use Rattle.std.proofs.Common.{◌≡◌, ℕ, zero, suc, ◌-◌, ◌*◌, ◌/◌, ◌%◌, ◌^◌, ◌<◌, ◌≤◌, max, Bool, true, false, cond, eqb, leb, refl, ap, ◌∙◌, ap₂, pow-suc, add-one, arith, pow_mono}
use mathlib.Core.Path.{fun_ext}
use native.Mathlib.Nat.{div-eq_of_lt, mul-div-mul_right}
use lib.Dec.{eqb-zero-suc, eqb-suc-zero, eqb-suc-suc}
use lib.Bits.{bit_and, bit_or, or_shr, or_step}
use lib.Count.{ones, ones_step}
use Rattle.std.proofs.lemmas.Bool.{le-ltb}
use Rattle.std.proofs.lemmas.Bool.Decides.{nat_tests}
use Rattle.std.proofs.lemmas.Nat.{one_shl, and_mask, and_shr, and_mod, shr-shr, pow_pos}
use Rattle.register.specs.Tables.{upd, bit, tally}
use Rattle.reads.specs.Views.{bit_of}

two : (x : ℕ) → x < 2 → bit (eqb x 1) ≡ x
two x h = grind (arith, nat_tests)

-- 2 ^ i has the one bit i
one_bit : (i j : ℕ) → 2 ^ i / 2 ^ j % 2 ≡ bit (eqb i j)
one_bit zero zero = refl
one_bit zero (suc j) =
    rw (eqb-zero-suc j) (let z : 1 / 2 ^ suc j ≡ 0 = let h : 1 < 2 ^ suc j = let p = pow_pos j in omega arith in div-eq_of_lt h in ap (λ v. v % 2) z)
one_bit (suc i) zero = rw (eqb-suc-zero i) (let p = pow-suc 2 i in omega arith)
one_bit (suc i) (suc j) =
    rw (eqb-suc-suc i j)
    (let z : 2 ^ suc i / 2 ^ suc j ≡ 2 ^ i / 2 ^ j = ap₂ (λ u v. u / v) (pow-suc 2 i) (pow-suc 2 j) ∙ mul-div-mul_right (2 ^ i) (2 ^ j) (omega arith) in
    ap (λ v. v % 2) z ∙ one_bit i j)

or_odd : (a b : ℕ) → bit_or a b % 2 ≡ max (a % 2) (b % 2)
or_odd a b = let s = or_step a b in omega arith

-- a node is put into the set
set_bit : (m i : ℕ) → bit_of (bit_or m (2 ^ i)) ≡ upd (bit_of m) i true
set_bit m i = fun_ext go
  where
    joins : (x : ℕ) (b : Bool) → x < 2 → eqb (max x (bit b)) 1 ≡ cond b true (eqb x 1)
    joins x true h = grind (arith, nat_tests)
    joins x false h = ap (λ v. eqb v 1) (omega arith)

    go : (j : ℕ) → bit_of (bit_or m (2 ^ i)) j ≡ upd (bit_of m) i true j
    go j =
        let o : bit_or m (2 ^ i) / 2 ^ j % 2 ≡ max (m / 2 ^ j % 2) (bit (eqb i j)) =
        ap (λ v. v % 2) (or_shr m (2 ^ i) j) ∙ or_odd (m / 2 ^ j) (2 ^ i / 2 ^ j) ∙ ap (max (m / 2 ^ j % 2)) (one_bit i j) in
        ap (λ v. eqb v 1) o ∙ joins (m / 2 ^ j % 2) (eqb i j) (omega arith)

-- the ones among the low l bits from i on
low_part : (l m i n : ℕ) → m ≡ bit_and (n / 2 ^ i) (2 ^ l - 1) → ones m ≡ tally (bit_of n) i l
unfolding ones tally
low_part zero m i n e = let z : m ≡ 0 = let h = and_mask (n / 2 ^ i) 0 in omega arith in rw z refl
low_part (suc l) m i n e =
    let p = pow-suc 2 l in
    let q = pow_pos l in
    let s = shr-shr n i 1 in
    let d : (2 ^ suc l - 1) / 2 ≡ 2 ^ l - 1 = omega arith in
    let f : m / 2 ≡ bit_and (n / 2 ^ suc i) (2 ^ l - 1) =
    ap (λ v. v / 2) e ∙ and_shr (n / 2 ^ i) (2 ^ suc l - 1) 1 ∙ ap₂ bit_and (s ∙ ap (λ v. n / 2 ^ v) (add-one i)) d in
    let ih = low_part l (m / 2) (suc i) n f in
    let k = and_mod (n / 2 ^ i) (2 ^ suc l - 1) 1 in
    let one : (2 ^ suc l - 1) % 2 ≡ 1 = omega arith in
    let twice : n / 2 ^ i % 2 % 2 ≡ n / 2 ^ i % 2 = omega arith in
    let o : m % 2 ≡ n / 2 ^ i % 2 = ap (λ v. v % 2) e ∙ k ∙ ap (bit_and (n / 2 ^ i % 2)) one ∙ and_mask (n / 2 ^ i % 2) 1 ∙ twice in
    let t = two (n / 2 ^ i % 2) (omega arith) in
    let st = ones_step m in
    omega arith

-- the count of ones among the low l bits is the number of nodes in the set
low_ones : (l m : ℕ) → ones (bit_and m (2 ^ l - 1)) ≡ tally (bit_of m) 0 l
low_ones l m = low_part l (bit_and m (2 ^ l - 1)) 0 m (ap (λ v. bit_and v (2 ^ l - 1)) (omega arith))

-- what the code computes at the close of a round
pub closes_is : (n f n' n'' f' m m' : ℕ) → n' ≡ n → n'' ≡ n → f' ≡ f → m' ≡ m → n < 32
    → leb (n'' - f') (ones (bit_and m' ((1 * 2 ^ n') % 4294967296 - 1))) ≡ leb (n - f) (tally (bit_of m) 0 n)
closes_is n f n' n'' f' m m' a b c d h = rw (a, b, c, d, one_shl n 32 h) (ap (leb (n - f)) (low_ones n m))

-- what the code sets when a node is fetched
pub bit_set : (m i j : ℕ) → i < 8 → bit_of (bit_or m ((1 * 2 ^ i) % 256)) j ≡ cond (eqb i j) true (bit_of m j)
bit_set m i j h = ap (λ v. bit_of (bit_or m v) j) (one_shl i 8 h) ∙ ap (λ g. g j) (set_bit m i)

-- a byte has no bits from 8 on
pub no_bit : (m i : ℕ) → m < 256 → 8 ≤ i → bit_of m i ≡ false
no_bit m i h l =
    let p : 2 ^ 8 ≤ 2 ^ i = pow_mono l in
    let z : m / 2 ^ i ≡ 0 = div-eq_of_lt (let q : m < 2 ^ i = omega arith in q) in
    ap (λ v. eqb (v % 2) 1) z

-- what is needed to test a bit
pub ruleset bits = (and_mask, no_bit, le-ltb)
