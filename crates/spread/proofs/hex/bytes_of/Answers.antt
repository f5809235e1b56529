use Rattle.std.proofs.Common.{rules, ◌≡◌, ◌<◌, ◌*◌, ◌+◌, ◌/◌, ap₂, Option, MatchResult, ℕ, suc, zero, List, [], length, get_or, Ok, Err, Result, refl, Some, None, IfOk, IfErr, slice_index, arith, sym, ap, ◌∙◌}
use Rattle.std.specs.Result.{result_ok}
use Rattle.std.specs.Simd.{first_chunks}
use Rattle.std.proofs.lemmas.List.{get_or-take, get_or-drop, get_or_default}
use Rattle.std.specs.Array.{IsWholeChunk}
use Rattle.spread.specs.Hex.{Read, byte_at, byte_of, digit_of}
use Rattle.spread.proofs.hex.bytes_of.Goals as goal

-- what either outcome says of the line
read : (line : List ℕ) (r : Result (List ℕ) (Unit {0})) (P : List ℕ → Type 0) (Q : Unit {0} → Type 0) → IfOk r P → IfErr r Q → length line ≡ 48
    → ((ys : List ℕ) → P ys → (k : ℕ) → k < 24 → byte_at line k ≡ Some (slice_index ys k)) → ((e : Unit {0}) → Q e → (k : ℕ) × (k < 24) × (byte_at line k ≡ None)) → Read line (result_ok r)
read line (Ok ys) P Q ok err long f g = (long, f ys ok)
read line (Err e) P Q ok err long f g = λ _. g e err

-- the byte of two digits
abbrev byte_of_pair : List ℕ → Option ℕ
byte_of_pair p = byte_of (digit_of (get_or p 0 0)) (digit_of (get_or p 1 0))

-- byte j of pair k
at_pair : (m : ℕ) (xs : List ℕ) (k j n : ℕ) → n ≡ 2 * k + j → k < m → j < 2 → get_or (get_or (first_chunks 2 m xs) k []) j 0 ≡ get_or xs n 0
at_pair zero xs k j n e h i = absurd (omega arith)
at_pair (suc m) xs zero j n e h i =
    let here : j ≡ n = omega arith in
    get_or-take 2 xs j 0 i ∙ ap (λ p. get_or xs p 0) here
at_pair (suc m) xs (suc k) j n e h i =
    let there : 2 + (2 * k + j) ≡ n = omega arith in
    at_pair m _ k j (2 * k + j) refl (omega arith) i ∙ get_or-drop 2 xs (2 * k + j) 0 ∙ ap (λ p. get_or xs p 0) there

-- byte k, by its pair
at_byte : (line : List ℕ) (k : ℕ) → k < 24 → byte_at line k ≡ byte_of_pair (get_or (first_chunks 2 24 line) k [])
at_byte line k h =
    ap₂ (λ a b. byte_of (digit_of a) (digit_of b))
    (sym (at_pair 24 line k 0 (2 * k) (omega arith) h (omega arith)))
    (sym (at_pair 24 line k 1 (2 * k + 1) refl h (omega arith)))

-- the array that a slice of pairs was turned into
turned : (n : ℕ) (xs ps : List (List ℕ)) {E : Type 0} (Q : E → Type 0) (r : Result (List (List ℕ)) E) → Some ps ≡ result_ok r → MatchResult r (λ y. IsWholeChunk xs y n) Q → (length xs ≡ n) × (ps ≡ xs)
turned n xs ps Q (Ok y) e h =
    let same : ps ≡ y = cc in
    (h.long, same ∙ h.same)
turned n xs ps Q (Err x) e h = absurd (cc)

pub returns : goal.returns
returns c =
    let line = c.args.line.now in
    let pairs = c.in_ok-pairs.pairs in
    let chunk = turned 24 c.as_chunks.result.0.now pairs _ c.try_into.result c.in_ok-pairs.ensures.value c.try_into.ensures.1 in
    let long : length line ≡ 48 = omega (arith, chunk.0, c.as_chunks.ensures.front_len, c.as_chunks.ensures.back_len) in
    let half : length line / 2 ≡ 24 = omega arith in
    let are : pairs ≡ first_chunks 2 24 line = chunk.1 ∙ c.as_chunks.ensures.front ∙ ap (λ n. first_chunks 2 n line) half in
    rw c.ok-2.ensures.value
    (read line c.try_map.result _ _ c.try_map.ensures.ok c.try_map.ensures.err long
    (λ ys h k lt.
    let f = h.at k [] 0 lt in
    let told : byte_of_pair (get_or pairs k []) ≡ Some (get_or ys k 0) = search rules in
    at_byte line k lt ∙ ap (λ ps. byte_of_pair (get_or ps k [])) (sym are) ∙ told)
    (λ e h.
    let k = h.1.0 in
    let lt : k < 24 = omega arith in
    let none : byte_of_pair h.0 ≡ None = search rules in
    let here : get_or pairs k [] ≡ h.0 = sym (h.1.1.1 ∙ get_or_default pairs k h.0 [] h.1.1.0) in
    (k, lt, at_byte line k lt ∙ ap (λ ps. byte_of_pair (get_or ps k [])) (sym are) ∙ ap byte_of_pair here ∙ none)))
