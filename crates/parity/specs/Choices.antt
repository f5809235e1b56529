-- From a test at any four rising numbers to the test at chosen ones.
use Rattle.std.proofs.Common.{◌≡◌, ℕ, ◌<◌, Bool, true, ◌&&◌, T, ltb, List, [], ◌∷◌, arith, ltb→lt}
use Rattle.code.specs.Meaning.{Chosen}
use Rattle.field.specs.Tested.{below}
use Rattle.field.proofs.Tested.{left, right, at}
use Rattle.parity.specs.Solvable.{each_four}

pub four_pass : (n : ℕ) (test : List ℕ → Bool) → T (each_four n test) → (a b c d : ℕ) → a < b → b < c → c < d → d < n → T (test (a ∷ b ∷ c ∷ d ∷ []))
four_pass n test all a b c d ab bc cd dn =
    at (λ x. test (x ∷ b ∷ c ∷ d ∷ [])) b
    (at (λ y. below (λ x. test (x ∷ y ∷ c ∷ d ∷ [])) y) c
    (at (λ z. below (λ y. below (λ x. test (x ∷ y ∷ z ∷ d ∷ [])) y) z) d
    (at (λ u. below (λ z. below (λ y. below (λ x. test (x ∷ y ∷ z ∷ u ∷ [])) y) z) u) n all d dn) c cd) b bc) a ab

pub chosen_passes : (n : ℕ) (test : List ℕ → Bool) → T (each_four n test) → (is : List ℕ) → Chosen 4 n is → T (test is)
chosen_passes n test all (a ∷ b ∷ c ∷ d ∷ []) h =
    let b_on = right (ltb a b) (ltb b c && (ltb c d && true)) h.rise in
    let c_on = right (ltb b c) (ltb c d && true) b_on in
    let b_below = right (ltb a n) (ltb b n && (ltb c n && (ltb d n && true))) h.below in
    let d_below = right (ltb c n) (ltb d n && true) (right (ltb b n) (ltb c n && (ltb d n && true)) b_below) in
    four_pass n test all a b c d
    (ltb→lt a b (left (ltb a b) (ltb b c && (ltb c d && true)) h.rise)) (ltb→lt b c (left (ltb b c) (ltb c d && true) b_on))
    (ltb→lt c d (left (ltb c d) true c_on)) (ltb→lt d n (left (ltb d n) true d_below))
chosen_passes n test all [] h = absurd (let z : ◌≡◌ {A = ℕ} 0 4 = h.count in omega arith)
chosen_passes n test all (a ∷ []) h = absurd (let z : ◌≡◌ {A = ℕ} 1 4 = h.count in omega arith)
chosen_passes n test all (a ∷ b ∷ []) h = absurd (let z : ◌≡◌ {A = ℕ} 2 4 = h.count in omega arith)
chosen_passes n test all (a ∷ b ∷ c ∷ []) h = absurd (let z : ◌≡◌ {A = ℕ} 3 4 = h.count in omega arith)
chosen_passes n test all (a ∷ b ∷ c ∷ d ∷ e ∷ is) h = absurd (let z = h.count in omega arith)
