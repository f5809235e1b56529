-- Printable bytes: as a test of each, and as text. Assumes nothing.
use Rattle.std.proofs.Common.{◌≡◌, ℕ, zero, suc, ◌-◌, ◌<◌, ◌≤◌, true, false, ◌&&◌, eqb, leb, List, [], ◌∷◌, length, get_or, take, refl, ap, sym, ◌∙◌, subst, arith, lit<}
use Rattle.std.specs.Char.{is_ascii_whitespace}
use Rattle.std.specs.List.{list_all, suffix_len}
use Rattle.std.specs.Str.{IsUtf8, IsTrimAsciiEnd}
use Rattle.std.proofs.lemmas.Bool.{and_parts, and_from, leb-true}
use Rattle.std.proofs.lemmas.List.Sums.{suffix_len_is}
use Rattle.std.proofs.lemmas.Str.{IsUtf8-from_ascii}
use Rattle.record.specs.declared.fields.Name.{Name as Title}
use Rattle.record.specs.Ranges.{printable, shown}

-- the test of all is that of each
pub printable_is_all : (x : List ℕ) → list_all (λ b. leb 32 b && leb b 126) x ≡ printable x
printable_is_all [] = refl
printable_is_all (b ∷ x) = ap (λ t. (leb 32 b && leb b 126) && t) (printable_is_all x)

-- a part of printable bytes is printable
take_printable : (n : ℕ) (x : List ℕ) → printable x ≡ true → printable (take n x) ≡ true
take_printable zero x h = refl
take_printable (suc n) [] h = refl
take_printable (suc n) (b ∷ x) h =
    let p = and_parts (leb 32 b && leb b 126) (printable x) h in
    and_from _ _ p.0 (take_printable n x p.1)

-- printable bytes are ASCII
ascii : (x : List ℕ) → printable x ≡ true → (i : ℕ) → get_or x i 0 < 128
ascii [] h i = lit< tt
ascii (b ∷ x) h zero =
    let p = and_parts (leb 32 b && leb b 126) (printable x) h in
    let q = leb-true b 126 (and_parts (leb 32 b) (leb b 126) p.0).1 in
    omega arith
ascii (b ∷ x) h (suc i) = ascii x (and_parts (leb 32 b && leb b 126) (printable x) h).1 i

-- and the only white space among them is the space
low : (x : List ℕ) → printable x ≡ true → (i : ℕ) → i < length x → 32 ≤ get_or x i 0
low (b ∷ x) h zero l =
    let p = and_parts (leb 32 b && leb b 126) (printable x) h in
    leb-true 32 b (and_parts (leb 32 b) (leb b 126) p.0).0
low (b ∷ x) h (suc i) l = low x (and_parts (leb 32 b && leb b 126) (printable x) h).1 i (omega arith)
low [] h i l = absurd (omega arith)

only_space : (b : ℕ) → 32 ≤ b → is_ascii_whitespace b ≡ true → eqb b 32 ≡ true
only_space b l h = grind arith

no_space : (b : ℕ) → is_ascii_whitespace b ≡ false → eqb b 32 ≡ false
no_space b h = grind arith

readable : (x : Title) → printable x.bytes ≡ true
readable x = (and_parts (eqb (length x.bytes) 16) (printable x.bytes) x.readable).1

-- a name without its ending white space is the name as it is shown, and text
pub trimmed_shown : (x : Title) (r : List ℕ) → IsTrimAsciiEnd x.bytes r → r ≡ shown x.bytes
trimmed_shown x r (n, e, long, most, spaces, last) =
    let b = x.bytes in
    let s = suffix_len_is (λ c. eqb c 32) b n 0 most (λ k l m. only_space _ (low b (readable x) k m) (spaces k l m)) (λ l. no_space _ (last l)) in
    let k : n ≡ length b - suffix_len (λ c. eqb c 32) b = omega arith in
    e ∙ ap (λ k. take k b) k

pub trimmed_text : (x : Title) (r : List ℕ) → IsTrimAsciiEnd x.bytes r → IsUtf8 r
trimmed_text x r (n, e, long, most, spaces, last) =
    IsUtf8-from_ascii r (λ i. subst (λ s. get_or s i 0 < 128) (sym e) (ascii (take n x.bytes) (take_printable n x.bytes (readable x)) i))
