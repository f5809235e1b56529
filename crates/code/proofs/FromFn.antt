-- Arrays that a closure makes, place by place.
use Rattle.std.proofs.Common.{◌≡◌, ℕ, suc, zero, ◌+◌, ◌<◌, ◌≤◌, List, get_or, subst, ◌∙◌, ⊎_elim, arith}
use denote.Param.Members.{Mut, Called}
use Rattle.std.specs.Array.{IsFromFnResult, IsFromFnResultFrom}
use Rattle.std.proofs.lemmas.Bool.{cases_lt}

-- each call at i leaves the closure as it was and gives e i
module _ {F B : Type 0} (g : Mut F (ℕ × Unit {0}) B) (f : F) (e : ℕ → B) (computes : (i : ℕ) (y : B) (q : F) → Called g f (i, tt) y q → (q ≡ f) × (y ≡ e i)) where
  made_from : (ys : List B) (i n : ℕ) → IsFromFnResultFrom g f ys i n → (j : ℕ) (d : B) → i ≤ j → j < i + n → get_or ys j d ≡ e j
  made_from ys i zero m j d low high = absurd (omega arith)
  made_from ys i (suc n) m j d low high =
      let call = computes i m.1 m.0 m.3 in
      ⊎_elim
      (λ h. made_from ys (i + 1) n (subst (λ s. IsFromFnResultFrom g s ys (i + 1) n) call.0 m.4) j d (omega (arith, h)) (omega (arith, high)))
      (λ h.
      let here : i ≡ j = omega (arith, h, low) in
      subst (λ t. get_or ys t d ≡ e t) here (m.2.1 d ∙ call.1))
      (cases_lt i j)

  -- what stands at each place
  pub made_at : (ys : List B) (n : ℕ) → IsFromFnResult g f ys n → (j : ℕ) (d : B) → j < n → get_or ys j d ≡ e j
  made_at ys n m j d h = made_from ys 0 n m.each j d (omega arith) (omega arith)
