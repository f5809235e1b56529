-- Counting: two quorums meet.
use Rattle.std.proofs.Common.{◌≡◌, ℕ, zero, suc, ◌+◌, ◌<◌, ◌≤◌, Bool, true, false, ◌&&◌, refl, ap, arith}
use Rattle.register.specs.Tables.{bit, tally}

bits : (a b : Bool) → bit a + bit b ≤ 1 + bit (a && b)
bits true true = omega arith
bits true false = omega arith
bits false true = omega arith
bits false false = omega arith

pub meet : (p q : ℕ → Bool) (i l : ℕ) → tally p i l + tally q i l ≤ l + tally (λ j. p j && q j) i l
unfolding tally
meet p q i zero = omega arith
meet p q i (suc l) = let h = meet p q (suc i) l in let b = bits (p i) (q i) in omega arith

bit_le : (a b : Bool) → (a ≡ true → b ≡ true) → bit a ≤ bit b
bit_le true b h = rw (h refl) (omega arith)
bit_le false b h = omega arith

pub more : (p q : ℕ → Bool) (i l : ℕ) → ((j : ℕ) → i ≤ j → j < i + l → p j ≡ true → q j ≡ true) → tally p i l ≤ tally q i l
unfolding tally
more p q i zero h = omega arith
more p q i (suc l) h =
    let t = more p q (suc i) l (λ j a b. h j (omega arith) (omega arith)) in
    let b = bit_le (p i) (q i) (h i (omega arith) (omega arith)) in
    omega arith

abbrev Found : (ℕ → Bool) → ℕ → ℕ → Type 0
Found p i l = (j : ℕ) × (i ≤ j) × (j < i + l) × (p j ≡ true)

pub one : (p : ℕ → Bool) (i l : ℕ) → 1 ≤ tally p i l → Found p i l
unfolding tally
one p i zero h = absurd (omega arith)
one p i (suc l) h = go (p i) refl (λ u. one p (suc i) l u)
  where
    go : (b : Bool) → p i ≡ b → (1 ≤ tally p (suc i) l → Found p (suc i) l) → Found p i (suc l)
    go true e k = (i, omega arith, omega arith, e)
    go false e k =
        let t : 1 ≤ bit (p i) + tally p (suc i) l = h in
        let r = k (omega (arith, rw e at t)) in (r.0, omega arith, omega arith, r.3)

pub either : (p q r : ℕ → Bool) (i l : ℕ) → ((j : ℕ) → i ≤ j → j < i + l → bit (p j) ≤ bit (q j) + bit (r j)) → tally p i l ≤ tally q i l + tally r i l
unfolding tally
either p q r i zero h = omega arith
either p q r i (suc l) h =
    let t = either p q r (suc i) l (λ j a b. h j (omega arith) (omega arith)) in
    let b = h i (omega arith) (omega arith) in
    omega arith

pub full : (p : ℕ → Bool) (i l : ℕ) → ((j : ℕ) → p j ≡ true) → l ≤ tally p i l
unfolding tally
full p i zero h = omega arith
full p i (suc l) h = let t = full p (suc i) l h in let b = ap bit (h i) in omega arith

pub longer : (p : ℕ → Bool) (i l : ℕ) → tally p i l ≤ tally p i (suc l)
unfolding tally
longer p i zero = omega arith
longer p i (suc l) = let h = longer p (suc i) l in omega arith

filled_from : (p : ℕ → Bool) (i l : ℕ) → ((j : ℕ) → j < i + l → p j ≡ true) → l ≤ tally p i l
unfolding tally
filled_from p i zero h = omega arith
filled_from p i (suc l) h = let t = filled_from p (suc i) l (λ j x. h j (omega arith)) in let b = ap bit (h i (omega arith)) in omega arith

pub filled : (p : ℕ → Bool) (n : ℕ) → ((j : ℕ) → j < n → p j ≡ true) → n ≤ tally p 0 n
filled p n h = filled_from p 0 n (λ j x. h j (omega arith))
