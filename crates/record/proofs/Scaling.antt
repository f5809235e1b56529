-- Values in ten-thousandths are equal exactly if the fractions are. Assumes nothing.
use Rattle.std.proofs.Common.{◌≡◌, ℕ, zero, suc, ◌+◌, ◌-◌, ◌*◌, ◌^◌, ◌<◌, ◌≤◌, Bool, true, false, eqb, ℤ, pos, negsuc, ◌*ℤ◌, neg_ℤ, ◌≤ℤ◌, sym, refl, ap, ◌∙◌, subst, not-suc-le-zero, mul_assoc, mul_comm, mul-le-mul, zero-mul, mul-one, arith, lit<, leb→le, pow-add, w64, SFits, of_z}
use native.Mathlib.Nat.{one-le-pow, pow-le-pow_right, eq_of_mul-eq-mul_right}
use lib.Signed.{mag}
use Rattle.std.proofs.lemmas.Bool.{eqb-true, eq-eqb, ne_eqb}
use Rattle.record.specs.Values.{scaled, eqℤ, equal}
use Rattle.record.specs.Tens.{raised, ten_thousandths}

-- ---- tests of equality

pub eqℤ_true : (x y : ℤ) → eqℤ x y ≡ true → x ≡ y
eqℤ_true (pos a) (pos b) e = ap pos (eqb-true a b e)
eqℤ_true (pos a) (negsuc b) e = absurd (let z : ◌≡◌ {A = ℕ} 0 1 = cc in omega arith)
eqℤ_true (negsuc a) (pos b) e = absurd (let z : ◌≡◌ {A = ℕ} 0 1 = cc in omega arith)
eqℤ_true (negsuc a) (negsuc b) e = ap negsuc (eqb-true a b e)

pub eq_eqℤ : (x y : ℤ) → x ≡ y → eqℤ x y ≡ true
eq_eqℤ x y e = subst (λ (v : ℤ). eqℤ x v ≡ true) e (itself x) where
  itself : (v : ℤ) → eqℤ v v ≡ true
  itself (pos a) = eq-eqb a a refl
  itself (negsuc a) = eq-eqb a a refl

-- two tests that pass together
alike : (s t : Bool) → (s ≡ true → t ≡ true) → (t ≡ true → s ≡ true) → s ≡ t
alike true t f g = sym (f refl)
alike false true f g = g refl
alike false false f g = refl

-- two's complement tells numbers apart
pub bits_tell : (x y : ℤ) → SFits w64 x → SFits w64 y → eqb (of_z w64 x) (of_z w64 y) ≡ eqℤ x y
bits_tell (pos a) (pos b) f g = refl
bits_tell (pos a) (negsuc b) f g = let p = f.sfits in let q = g.sfits in ne_eqb _ _ (λ e. omega arith)
bits_tell (negsuc a) (pos b) f g = let p = f.sfits in let q = g.sfits in ne_eqb _ _ (λ e. omega arith)
bits_tell (negsuc a) (negsuc b) f g =
    let p = f.sfits in
    let q = g.sfits in
    alike _ _ (λ e. let h = eqb-true _ _ e in eq-eqb a b (omega arith)) (λ e. let h = eqb-true a b e in eq-eqb _ _ (omega arith))

-- ---- multiples

neg_times : (m b : ℕ) → neg_ℤ (pos m) *ℤ pos b ≡ neg_ℤ (pos (m * b))
neg_times zero b = let e = zero-mul b in ap pos e ∙ ap (λ v. neg_ℤ (pos v)) (sym e)
neg_times (suc m) b = refl

times_times : (z : ℤ) (a b : ℕ) → z *ℤ pos a *ℤ pos b ≡ z *ℤ pos (a * b)
times_times (pos n) a b = ap pos (mul_assoc n a b)
times_times (negsuc n) a b = neg_times (suc n * a) b ∙ ap (λ v. neg_ℤ (pos v)) (mul_assoc (suc n) a b)

-- in either order
times_swap : (z : ℤ) (a b : ℕ) → z *ℤ pos a *ℤ pos b ≡ z *ℤ pos b *ℤ pos a
times_swap z a b = times_times z a b ∙ ap (λ v. z *ℤ pos v) (mul_comm a b) ∙ sym (times_times z b a)

negative : (m n : ℕ) → 0 < m → pos n ≡ neg_ℤ (pos m) → ⊥
negative zero n h e = not-suc-le-zero h
negative (suc m) n h e = let z : ◌≡◌ {A = ℕ} 0 1 = cc in omega arith

positive : (n m : ℕ) → 0 < m → 0 < suc n * m
positive n m h = mul-le-mul {n₁ = 1} {m₁ = 1} (omega arith) h

neg_back : (m n : ℕ) → neg_ℤ (pos m) ≡ neg_ℤ (pos n) → m ≡ n
neg_back zero zero e = refl
neg_back zero (suc n) e = absurd (let z : ◌≡◌ {A = ℕ} 0 1 = cc in omega arith)
neg_back (suc m) zero e = absurd (let z : ◌≡◌ {A = ℕ} 0 1 = cc in omega arith)
neg_back (suc m) (suc n) e = let f : m ≡ n = cc in ap suc f

pos_back : (m n : ℕ) → pos m ≡ pos n → m ≡ n
pos_back m n e = cc

times_back : (y z : ℤ) (m : ℕ) → 0 < m → y *ℤ pos m ≡ z *ℤ pos m → y ≡ z
times_back (pos a) (pos b) m h e = ap pos (eq_of_mul-eq-mul_right m h a b (pos_back _ _ e))
times_back (pos a) (negsuc b) m h e = absurd (negative (suc b * m) (a * m) (positive b m h) e)
times_back (negsuc a) (pos b) m h e = absurd (negative (suc a * m) (b * m) (positive a m h) (sym e))
times_back (negsuc a) (negsuc b) m h e =
    let f = eq_of_mul-eq-mul_right m h (suc a) (suc b) (neg_back _ _ e) in
    let g : a ≡ b = omega arith in
    ap negsuc g

-- ---- fractions and ten-thousandths

under_positive : (n e : ℤ) → 0 < (scaled n e).under
under_positive n (pos e) = omega arith
under_positive n (negsuc e) = one-le-pow (suc e) 10 (omega arith)

-- the fraction times 10,000
in_tens : (n e : ℤ) → negsuc 3 ≤ℤ e → (scaled n e).over *ℤ pos 10000 ≡ ten_thousandths n e *ℤ pos (scaled n e).under
in_tens n (pos e) l =
    times_times n (10 ^ e) 10000 ∙ ap (λ v. n *ℤ pos v) (sym (pow-add 10 e 4) ∙ sym (mul-one (10 ^ (e + 4)))) ∙ sym (times_times n (10 ^ (e + 4)) 1)
in_tens n (negsuc e) l =
    let h = leb→le e 3 l.le in
    let s : 3 - e + suc e ≡ 4 = omega arith in
    let p : 10000 ≡ 10 ^ (3 - e) * 10 ^ suc e = sym (ap (λ k. 10 ^ k) s) ∙ pow-add 10 (3 - e) (suc e) in
    ap (λ v. n *ℤ pos v) p ∙ sym (times_times n (10 ^ (3 - e)) (10 ^ suc e))

module _ (n e m d : ℤ) (le : negsuc 3 ≤ℤ e) (ld : negsuc 3 ≤ℤ d) where
  forth : ten_thousandths n e ≡ ten_thousandths m d → (scaled n e).over *ℤ pos (scaled m d).under ≡ (scaled m d).over *ℤ pos (scaled n e).under
  forth h =
      let u = (scaled n e).under in
      let v = (scaled m d).under in
      times_back _ _ 10000 (lit< tt)
      (times_swap (scaled n e).over v 10000 ∙ ap (λ x. x *ℤ pos v) (in_tens n e le) ∙ times_swap (ten_thousandths n e) u v
      ∙ ap (λ x. x *ℤ pos v *ℤ pos u) h ∙ ap (λ x. x *ℤ pos u) (sym (in_tens m d ld)) ∙ times_swap (scaled m d).over 10000 u)

  back : (scaled n e).over *ℤ pos (scaled m d).under ≡ (scaled m d).over *ℤ pos (scaled n e).under → ten_thousandths n e ≡ ten_thousandths m d
  back h =
      let u = (scaled n e).under in
      let v = (scaled m d).under in
      times_back _ _ u (under_positive n e)
      (times_back _ _ v (under_positive m d)
      (ap (λ x. x *ℤ pos v) (sym (in_tens n e le)) ∙ times_swap (scaled n e).over 10000 v ∙ ap (λ x. x *ℤ pos 10000) h
      ∙ times_swap (scaled m d).over u 10000 ∙ ap (λ x. x *ℤ pos u) (in_tens m d ld) ∙ times_swap (ten_thousandths m d) v u))

  pub tens_tell : eqℤ (ten_thousandths n e) (ten_thousandths m d) ≡ equal (scaled n e) (scaled m d)
  tens_tell = alike _ _ (λ t. eq_eqℤ _ _ (forth (eqℤ_true _ _ t))) (λ t. eq_eqℤ _ _ (back (eqℤ_true _ _ t)))

-- ---- the power is at most 10^8, and its product with a number fits 64 bits

pub power_bound : (e : ℤ) → negsuc 3 ≤ℤ e → e ≤ℤ pos 4 → 10 ^ raised e ≤ 100000000
power_bound e l h = pow-le-pow_right {n = 10} (lit< tt) (small e l h) where
  small : (e : ℤ) → negsuc 3 ≤ℤ e → e ≤ℤ pos 4 → raised e ≤ 8
  small (pos n) l h = let s = leb→le n 4 h.le in omega arith
  small (negsuc n) l h = omega arith

pub product_fits : (z : ℤ) (p : ℕ) → negsuc 8999999 ≤ℤ z → z ≤ℤ pos 9000000 → p ≤ 100000000 → SFits w64 (z *ℤ pos p)
product_fits (pos n) p l h b =
    let s = leb→le n 9000000 h.le in
    let m = mul-le-mul s b in
    record { sfits = omega arith }
product_fits (negsuc n) p l h b =
    let s = leb→le n 8999999 l.le in
    let t : suc n ≤ 9000000 = omega arith in
    let m = mul-le-mul t b in
    record { sfits = small (suc n * p) m }
  where
    small : (q : ℕ) → q ≤ 9000000 * 100000000 → mag (neg_ℤ (pos q)) < 2 ^ 63
    small zero k = omega arith
    small (suc q) k = omega arith

-- so a value in ten-thousandths fits
pub value_fits : (n e : ℤ) → negsuc 8999999 ≤ℤ n → n ≤ℤ pos 9000000 → negsuc 3 ≤ℤ e → e ≤ℤ pos 4 → SFits w64 (ten_thousandths n e)
value_fits n e l h p q = product_fits n (10 ^ raised e) l h (power_bound e p q)
