-- Tests along a list of pieces.
use Rattle.std.proofs.Common.{◌≡◌, ℕ, zero, suc, ◌+◌, ◌<◌, Bool, true, false, ◌&&◌, List, [], ◌∷◌, map, length, get_or, nat_lt, refl, ap, ap₂, subst, arith, le_of_suc-le-suc, not-suc-le-zero}
use Rattle.std.specs.List.{list_all, IsAllAdjacentAnswer}
use Rattle.std.proofs.lemmas.Bool.{and_parts}
use Rattle.code.specs.Meaning.{rising}

and_false : (a : Bool) {b : Bool} → false ≡ b → false ≡ (a && b)
and_false true h = h
and_false false h = refl

-- what the test at each element says of one of them
pub every_one : {A B : Type 0} (test : B → Bool) (g : A → B) (xs : List A) (i : ℕ) (d : A) → i < length xs → list_all test (map g xs) ≡ true → test (g (get_or xs i d)) ≡ true
every_one test g [] i d h t = absurd (not-suc-le-zero h)
every_one test g (x ∷ xs) zero d h t = (and_parts (test (g x)) (list_all test (map g xs)) t).0
every_one test g (x ∷ xs) (suc i) d h t = every_one test g xs i d (le_of_suc-le-suc h) (and_parts (test (g x)) (list_all test (map g xs)) t).1

next : (k : ℕ) → k + 1 ≡ suc k
next k = omega arith

-- the numbers of neighbours
module _ {A : Type 0} (g : A → ℕ) where
  abbrev pub in_order : A → A → Bool
  in_order x y = nat_lt (g x) (g y)

  rises : (xs : List A) → ((k : ℕ) (d : A) → suc k < length xs → true ≡ in_order (get_or xs k d) (get_or xs (suc k) d)) → true ≡ rising (map g xs)
  rises [] h = refl
  rises (x ∷ []) h = refl
  rises (x ∷ y ∷ ys) h = ap₂ (λ a b. a && b) (h 0 x (omega arith)) (rises (y ∷ ys) (λ k d l. h (suc k) d (omega arith)))

  falls : (xs : List A) (k : ℕ) → suc k < length xs → ((d : A) → false ≡ in_order (get_or xs k d) (get_or xs (suc k) d)) → false ≡ rising (map g xs)
  falls [] k l h = absurd (not-suc-le-zero l)
  falls (x ∷ []) k l h = absurd (omega arith)
  falls (x ∷ y ∷ ys) zero l h = ap (λ a. a && rising (map g (y ∷ ys))) (h x)
  falls (x ∷ y ∷ ys) (suc k) l h = and_false (in_order x y) (falls (y ∷ ys) k (omega arith) h)

  -- what a test of all neighbours answers
  pub adjacent_rises : (xs : List A) (r : Bool) → IsAllAdjacentAnswer (λ x y b. b ≡ in_order x y) xs r → r ≡ rising (map g xs)
  adjacent_rises xs true h =
      rises xs (λ k d l. subst (λ j. true ≡ in_order (get_or xs k d) (get_or xs j d)) (next k) (h k d (omega arith)))
  adjacent_rises xs false h =
      falls xs h.0 (omega (arith, h.1)) (λ d. subst (λ j. false ≡ in_order (get_or xs h.0 d) (get_or xs j d)) (next h.0) (h.2 d))
