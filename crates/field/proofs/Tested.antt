-- What a test that passes at each number below a bound says of one of them.
use Rattle.std.proofs.Common.{◌≡◌, ℕ, zero, suc, ◌<◌, Bool, true, false, ◌&&◌, T, eqb, sym, subst, inl, inr, not-suc-le-zero, arith, eqb→eq}
use Rattle.std.proofs.lemmas.Bool.{cases_eq}
use Rattle.field.specs.Tested.{below}

pub left : (a b : Bool) → T (a && b) → T a
left true b t = tt
left false b t = absurd t

pub right : (a b : Bool) → T (a && b) → T b
right true b t = t
right false b t = absurd t

pub at : (f : ℕ → Bool) (n : ℕ) → T (below f n) → (k : ℕ) → k < n → T (f k)
at f zero t k h = absurd (not-suc-le-zero h)
at f (suc n) t k h = elim (cases_eq k n) [
  | inl e ↦ subst (λ (m : ℕ). T (f m)) (sym e) (left (f n) (below f n) t)
  | inr e ↦ at f n (right (f n) (below f n) t) k (omega arith)
]

-- two functions that are equal below n
pub same_below : (f g : ℕ → ℕ) (n : ℕ) → T (below (λ k. eqb (f k) (g k)) n) → (k : ℕ) → k < n → f k ≡ g k
same_below f g n t k h = eqb→eq (f k) (g k) (at (λ j. eqb (f j) (g j)) n t k h)
