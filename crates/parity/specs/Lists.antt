-- Lists that are made place by place.
use Rattle.std.proofs.Common.{◌≡◌, ℕ, zero, suc, ◌+◌, ◌*◌, ◌/◌, ◌%◌, ◌<◌, T, ltb, List, [], ◌∷◌, map, length, get_or, take, sym, refl, ◌∙◌, ap₂, le_of_suc-le-suc, not-suc-le-zero, mod-lt, arith, ltb→lt}
use Rattle.std.specs.List.{range_with_len}
use Rattle.std.proofs.lemmas.Nat.{div-mul-add, mod-mul-add}
use Rattle.std.proofs.lemmas.List.FromFn.{length-map-range_with_len, get_or-map-range_with_len, fill_by_all}
use Rattle.code.specs.Bytes.{Bytes}
use Rattle.code.specs.Calls.{cut}
use Rattle.code.specs.Meaning.{AllBytes, all_below}
use Rattle.code.proofs.Cuts.{cut_at}
use Rattle.field.proofs.Tested.{left, right}
use Rattle.field.specs.Polynomials.{dot}
use Rattle.field.specs.Matrix.{entry}
use Rattle.parity.specs.Rows.{row_byte, rows_of, listed, flat, combinations, solved}
use Rattle.parity.specs.Sums.{dot_same}

pub map_four : {A : Type 0} (f : ℕ → A) (is : List ℕ) → length is ≡ 4 → map f is ≡ f (get_or is 0 0) ∷ f (get_or is 1 0) ∷ f (get_or is 2 0) ∷ f (get_or is 3 0) ∷ []
map_four f (a ∷ b ∷ c ∷ d ∷ []) h = refl
map_four f [] h = absurd (let z : ◌≡◌ {A = ℕ} 0 4 = h in omega arith)
map_four f (a ∷ []) h = absurd (let z : ◌≡◌ {A = ℕ} 1 4 = h in omega arith)
map_four f (a ∷ b ∷ []) h = absurd (let z : ◌≡◌ {A = ℕ} 2 4 = h in omega arith)
map_four f (a ∷ b ∷ c ∷ []) h = absurd (let z : ◌≡◌ {A = ℕ} 3 4 = h in omega arith)
map_four f (a ∷ b ∷ c ∷ d ∷ e ∷ is) h = absurd (omega arith)

pub take_four : (is : List ℕ) → length (take 4 is) ≡ 4 → take 4 is ≡ get_or is 0 0 ∷ get_or is 1 0 ∷ get_or is 2 0 ∷ get_or is 3 0 ∷ []
take_four (a ∷ b ∷ c ∷ d ∷ is) h = refl
take_four [] h = absurd (let z : ◌≡◌ {A = ℕ} 0 4 = h in omega arith)
take_four (a ∷ []) h = absurd (let z : ◌≡◌ {A = ℕ} 1 4 = h in omega arith)
take_four (a ∷ b ∷ []) h = absurd (let z : ◌≡◌ {A = ℕ} 2 4 = h in omega arith)
take_four (a ∷ b ∷ c ∷ []) h = absurd (let z : ◌≡◌ {A = ℕ} 3 4 = h in omega arith)

pub same_made : (n : ℕ) (f g : ℕ → ℕ) → ((k : ℕ) → k < n → f k ≡ g k) → map f (range_with_len 0 n) ≡ map g (range_with_len 0 n)
same_made n f g e =
    fill_by_all g (map f (range_with_len 0 n)) n 0 (length-map-range_with_len f 0 n) (λ k h. get_or-map-range_with_len f 0 n k k 0 h (omega arith) ∙ e k h)

map_small : (f : ℕ → ℕ) → ((t : ℕ) → f t < 256) → (l : List ℕ) (j : ℕ) → get_or (map f l) j 0 < 256
map_small f h [] j = omega arith
map_small f h (x ∷ l) zero = h x
map_small f h (x ∷ l) (suc j) = map_small f h l j

pub made_bytes : (f : ℕ → ℕ) → ((t : ℕ) → f t < 256) → (n : ℕ) → Bytes n (map f (range_with_len 0 n))
made_bytes f h n = record { long = length-map-range_with_len f 0 n; small = map_small f h (range_with_len 0 n) }

pub piece_small : (w : ℕ) (ps : List (List ℕ)) → AllBytes w ps → (m b : ℕ) → entry ps m b < 256
piece_small w [] a m b = omega arith
piece_small w (p ∷ ps) a zero b = a.0.small b
piece_small w (p ∷ ps) a (suc m) b = piece_small w ps a.1 m b

pub piece_long : (w : ℕ) (ps : List (List ℕ)) → AllBytes w ps → (m : ℕ) → m < length ps → length (get_or ps m []) ≡ w
piece_long w [] a m h = absurd (not-suc-le-zero h)
piece_long w (p ∷ ps) a zero h = a.0.long
piece_long w (p ∷ ps) a (suc m) h = piece_long w ps a.1 m (le_of_suc-le-suc h)

-- each of the numbers that are all below n
pub below_at : (n : ℕ) (is : List ℕ) → T (all_below n is) → (r : ℕ) → r < length is → get_or is r 0 < n
below_at n [] t r h = absurd (not-suc-le-zero h)
below_at n (i ∷ is) t zero h = ltb→lt i n (left (ltb i n) (all_below n is) t)
below_at n (i ∷ is) t (suc r) h = below_at n is (right (ltb i n) (all_below n is) t) r (le_of_suc-le-suc h)

-- byte b of row j of what is solved
pub solved_at : (s ps : List (List ℕ)) (j b : ℕ) → j < 4 → b < 6 → row_byte (solved s ps) j b ≡ dot (entry s j) (λ m. entry ps m b)
solved_at s ps j b hj hb =
    get_or-map-range_with_len (λ t. dot (entry s (t / 6)) (λ m. entry ps m (t % 6))) 0 24 (j * 6 + b) (j * 6 + b) 0 (omega arith) (omega arith)
    ∙ ap₂ (λ p q. dot (entry s p) (λ m. entry ps m q)) (div-mul-add j 6 b hb) (mod-mul-add j 6 b hb)

-- four sums of the rows that lie one after the other
pub flat_solved : (s : List (List ℕ)) (x : List ℕ) → flat (combinations s (listed (rows_of x))) ≡ solved s (cut 4 6 x)
flat_solved s x =
    same_made 24 (λ t. dot (entry s (t / 6)) (λ j. row_byte x j (t % 6))) (λ t. dot (entry s (t / 6)) (λ j. entry (cut 4 6 x) j (t % 6)))
    (λ t ht.
    dot_same (entry s (t / 6)) (entry s (t / 6)) (λ j. row_byte x j (t % 6)) (λ j. entry (cut 4 6 x) j (t % 6)) (λ j hj. refl)
    (λ j hj. sym (cut_at 4 6 x j (t % 6) hj (mod-lt t (omega arith)))))
