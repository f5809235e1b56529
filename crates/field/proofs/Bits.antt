-- What masks and the disjunctions of bytes are as numbers.
use Rattle.std.proofs.Common.{◌≡◌, ℕ, zero, suc, ◌+◌, ◌-◌, ◌*◌, ◌%◌, ◌^◌, ◌<◌, ◌≤◌, List, [], ◌∷◌, get_or, sym, ap, ◌∙◌, le_of_suc-le-suc, not-suc-le-zero, mod-eq_of_lt, one-mul, zero-mul, arith}
use lib.Bits.{bit_and, bit_or, and_zero_l, and_comm, and_mask}
use lib.Count.{count_leading_zeros}
use Rattle.std.specs.List.{fold}
use Rattle.std.proofs.lemmas.Nat.{leading_length, le_or_l, le_or_r}

-- a number below 2^64 that u takes to 0: no bit, or every bit
pub masked : (r u w : ℕ) → u ≤ 1 → r < 18446744073709551616 → (r + u) % 18446744073709551616 ≡ 0 → w < 18446744073709551616 → bit_and r w ≡ u * w
masked r zero w h hr e hw = let z : r ≡ 0 = omega arith in ap (λ x. bit_and x w) z ∙ and_zero_l w ∙ sym (zero-mul w)
masked r (suc zero) w h hr e hw =
    let z : r ≡ 18446744073709551615 = omega arith in
    ap (λ x. bit_and x w) z ∙ and_comm 18446744073709551615 w ∙ and_mask w 64 ∙ mod-eq_of_lt hw ∙ sym (one-mul w)
masked r (suc (suc u)) w h hr e hw = absurd (not-suc-le-zero (le_of_suc-le-suc h))

-- the first number, and each of the list, is at most the disjunction of all
first_within : (a : ℕ) (xs : List ℕ) → a ≤ fold bit_or a xs
first_within a [] = omega arith
first_within a (x ∷ xs) = omega (arith, first_within (bit_or a x) xs, le_or_l a x)

within : (a : ℕ) (xs : List ℕ) (j : ℕ) → get_or xs j 0 ≤ fold bit_or a xs
within a [] j = omega arith
within a (x ∷ xs) zero = omega (arith, first_within (bit_or a x) xs, le_or_r a x)
within a (x ∷ xs) (suc j) = within (bit_or a x) xs j

-- each of the list is below the power of two that the disjunction is below
pub under : (xs : List ℕ) (all j : ℕ) → all ≡ fold bit_or 0 xs → all < 256 → get_or xs j 0 < 2 ^ (8 - count_leading_zeros 8 all)
under xs all j e h =
    let l = leading_length 8 all h in
    let w = within 0 xs j in
    let power : 8 - count_leading_zeros 8 all ≡ l.0 = (let s = l.1 in omega arith) in
    let lt : all < 2 ^ l.0 = l.2 in
    rw power (omega arith)
