-- Sums of products of bytes, and what an inverse matrix undoes.
use Rattle.std.proofs.Common.{◌≡◌, ℕ, zero, suc, ◌<◌, ◌≤◌, Bool, true, false, cond, eqb, sym, refl, ap, ◌∙◌, ap₂, inl, inr, not-suc-le-zero, arith}
use lib.Bits.{bit_xor, xor_lt, xor_zero_r}
use Rattle.std.proofs.lemmas.Bool.{cases_eq, eq-eqb, ne_eqb}
use Rattle.field.specs.Polynomials.{sum, times, dot}
use Rattle.field.proofs.Linear.{of_zero}
use Rattle.field.proofs.Lanes.{sum_same, sum_none, sum_xor, of_sum}
use Rattle.field.proofs.Proved.{times_linear_l, times_linear_r, times_byte, times_comm, times_assoc, one_times}
use Rattle.field.specs.Matrix.{unit}

pub dot_same : (u u' v v' : ℕ → ℕ) → ((j : ℕ) → j < 4 → u j ≡ u' j) → ((j : ℕ) → j < 4 → v j ≡ v' j) → dot u v ≡ dot u' v'
dot_same u u' v v' eu ev = sum_same 4 (λ j. times (u j) (v j)) (λ j. times (u' j) (v' j)) (λ j h. ap₂ times (eu j h) (ev j h))

sum_byte : (n : ℕ) (f : ℕ → ℕ) → ((j : ℕ) → j < n → f j < 256) → sum n f < 256
sum_byte zero f h = omega arith
sum_byte (suc n) f h = xor_lt 8 (sum n f) (f n) (sum_byte n f (λ j l. h j (omega arith))) (h n (omega arith))

pub dot_byte : (u v : ℕ → ℕ) → ((j : ℕ) → v j < 256) → dot u v < 256
dot_byte u v h = sum_byte 4 (λ j. times (u j) (v j)) (λ j l. times_byte (u j) (v j) (h j))

sum_swap : (n m : ℕ) (f : ℕ → ℕ → ℕ) → sum n (λ i. sum m (λ j. f i j)) ≡ sum m (λ j. sum n (λ i. f i j))
sum_swap zero m f = sym (sum_none m)
sum_swap (suc n) m f = ap (λ x. bit_xor x (sum m (λ j. f n j))) (sum_swap n m f) ∙ sym (sum_xor m (λ j. sum n (λ i. f i j)) (λ j. f n j))

-- a row of the unit matrix picks a value
module _ (r : ℕ) (v : ℕ → ℕ) where
  here : (n : ℕ) → r ≡ n → v r < 256 → times (unit r n) (v n) ≡ v r
  here n e b = ap₂ (λ t m. times (cond t 1 0) (v m)) (eq-eqb r n e) (sym e) ∙ one_times (v r) b

  elsewhere : (n : ℕ) → (r ≡ n → ⊥) → times (unit r n) (v n) ≡ 0
  elsewhere n e = ap (λ t. times (cond t 1 0) (v n)) (ne_eqb r n e) ∙ of_zero (λ x. times x (v n)) (times_linear_l (v n))

  unit_before : (n : ℕ) → n ≤ r → sum n (λ m. times (unit r m) (v m)) ≡ 0
  unit_before zero h = refl
  unit_before (suc n) h = ap₂ bit_xor (unit_before n (omega arith)) (elsewhere n (omega arith))

  unit_picks : (n : ℕ) → r < n → v r < 256 → sum n (λ m. times (unit r m) (v m)) ≡ v r
  unit_picks zero h b = absurd (not-suc-le-zero h)
  unit_picks (suc n) h b = elim (cases_eq r n) [
    | inl e ↦ ap₂ bit_xor (unit_before n (omega arith)) (here n e b)
    | inr e ↦ ap₂ bit_xor (unit_picks n (omega arith) b) (elsewhere n e) ∙ xor_zero_r (v r)
  ]

-- where the product of a and b is the unit matrix, a undoes b
pub undoes : (a b : ℕ → ℕ → ℕ) (v : ℕ → ℕ) (r : ℕ) → r < 4 → ((i j : ℕ) → i < 4 → j < 4 → a i j < 256) → ((i j : ℕ) → i < 4 → j < 4 → b i j < 256)
    → ((i : ℕ) → i < 4 → v i < 256) → ((c : ℕ) → c < 4 → dot (a r) (λ j. b j c) ≡ unit r c) → dot (a r) (λ j. dot (b j) v) ≡ v r
undoes a b v r h ha hb hv e =
    sum_same 4 (λ j. times (a r j) (dot (b j) v)) (λ j. sum 4 (λ m. times (times (a r j) (b j m)) (v m)))
    (λ j hj.
    of_sum (times (a r j)) (times_linear_r (a r j)) 4 (λ m. times (b j m) (v m))
    ∙ sum_same 4 (λ m. times (a r j) (times (b j m) (v m))) (λ m. times (times (a r j) (b j m)) (v m))
    (λ m hm. sym (times_assoc (a r j) (b j m) (v m) (ha r j h hj) (hb j m hj hm) (hv m hm))))
    ∙ sum_swap 4 4 (λ j m. times (times (a r j) (b j m)) (v m))
    ∙ sum_same 4 (λ m. sum 4 (λ j. times (times (a r j) (b j m)) (v m))) (λ m. times (unit r m) (v m))
    (λ m hm.
    sym (of_sum (λ x. times x (v m)) (times_linear_l (v m)) 4 (λ j. times (a r j) (b j m))) ∙ ap (λ x. times x (v m)) (e m hm))
    ∙ unit_picks r v 4 h (hv r h)

unit_byte : (b : Bool) → cond b 1 0 < 256
unit_byte true = omega arith
unit_byte false = omega arith

unit_turned : (r c : ℕ) → unit r c ≡ unit c r
unit_turned r c = elim (cases_eq r c) [
  | inl e ↦ ap₂ unit e (sym e)
  | inr e ↦ ap (λ t. cond t 1 0) (ne_eqb r c e ∙ sym (ne_eqb c r (λ h. e (sym h))))
]

unit_column : (u : ℕ → ℕ) (c : ℕ) → c < 4 → ((j : ℕ) → j < 4 → u j < 256) → dot u (λ j. unit j c) ≡ u c
unit_column u c h hu =
    sum_same 4 (λ j. times (u j) (unit j c)) (λ j. times (unit c j) (u j))
    (λ j hj. times_comm (u j) (unit j c) (hu j hj) (unit_byte (eqb j c)) ∙ ap (λ x. times x (u j)) (unit_turned j c))
    ∙ unit_picks c u 4 h (hu c h)

-- an inverse is the only one
pub same_inverse : (s g t : ℕ → ℕ → ℕ) → ((i j : ℕ) → i < 4 → j < 4 → s i j < 256) → ((i j : ℕ) → i < 4 → j < 4 → g i j < 256)
    → ((i j : ℕ) → i < 4 → j < 4 → t i j < 256) → ((r c : ℕ) → r < 4 → c < 4 → dot (s r) (λ j. g j c) ≡ unit r c)
    → ((r c : ℕ) → r < 4 → c < 4 → dot (g r) (λ j. t j c) ≡ unit r c) → (r c : ℕ) → r < 4 → c < 4 → s r c ≡ t r c
same_inverse s g t hs hg ht sg gt r c hr hc =
    sym (unit_column (s r) c hc (λ j hj. hs r j hr hj))
    ∙ dot_same (s r) (s r) (λ j. unit j c) (λ j. dot (g j) (λ m. t m c)) (λ j hj. refl) (λ j hj. sym (gt j c hj hc))
    ∙ undoes s g (λ m. t m c) r hr hs hg (λ m hm. ht m c hm hc) (λ l hl. sg r l hr hl)
