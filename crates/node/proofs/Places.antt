-- A block that is cut into places, as a table: what writing one place changes, and the first places as a list.
use Rattle.std.proofs.Common.{◌≡◌, ℕ, ◌+◌, ◌*◌, ◌<◌, ◌≤◌, min, List, [], ◌∷◌, ◌++◌, map, length, get_or, take, set, refl, ap, ◌∙◌, ap₂, inl, inr, arith}
use mathlib.Core.Path.{fun_ext}
use borrow.Rule.Slice.PartMut.{put_mid}
use Rattle.std.specs.List.{range_with_len}
use Rattle.std.proofs.lemmas.List.FromFn.{length-map-range_with_len, get_or-map-range_with_len, map-range_with_len_more, fill_by_all}
use Rattle.std.proofs.lemmas.List.{get_or-set_same, get_or-set_other}
use Rattle.std.proofs.lemmas.Slice.{drop-put_mid}
use Rattle.std.proofs.lemmas.Bool.{cases_eq, cases_lt, eq-eqb, ne_eqb}
use Rattle.code.specs.Meaning.{Meaning, Lawful}
use Rattle.code.specs.Calls.{part}
use Rattle.code.proofs.Cuts.{part_ends, part_before, part_here}
use Rattle.register.specs.Tables.{upd}

-- place j lies within a block of 24 bytes
pub part_fits : (m : Meaning) → Lawful m → (j : ℕ) → j < m.k → j * m.w + m.w ≤ 24
part_fits m l j h = let ends = part_ends m.w j m.k h in let all = l.sizes in omega arith

-- writing piece i leaves those after it
part_after : (w : ℕ) (x p : List ℕ) (k m i : ℕ) → i < m → k ≡ w → length p ≡ k → i * w ≤ length x → part w (put_mid (i * w) k x p) m ≡ part w x m
part_after w x p k m i h wide size inside =
    let ends = part_ends w i m h in ap (take w) (drop-put_mid (i * w) k x p (m * w) (omega arith) inside size)

-- writing piece i changes place i of the table, and no other
pub part_written : (w : ℕ) (x p : List ℕ) (k i : ℕ) → k ≡ w → length p ≡ w → i * w ≤ length x → part w (put_mid (i * w) k x p) ≡ upd (part w x) i p
part_written w x p k i wide size inside = fun_ext (λ m.
    elim (cases_eq i m) [
      | inl e ↦ rw (eq-eqb i m e, ← e) (part_here w x p k i size inside)
      | inr n ↦
          rw (ne_eqb i m n)
          (elim (cases_lt m i) [
            | inl l ↦ part_before w x p k m i l inside
            | inr l ↦ part_after w x p k m i (omega arith) wide (omega arith) inside
          ])
    ])

-- two tables that agree on the first n places list the same
listed_same : {X : Type 0} (f g : ℕ → X) (n : ℕ) (d : X) → ((j : ℕ) → j < n → f j ≡ g j) → map f (range_with_len 0 n) ≡ map g (range_with_len 0 n)
listed_same f g n d same =
    fill_by_all g (map f (range_with_len 0 n)) n d (length-map-range_with_len f 0 n) (λ j h. get_or-map-range_with_len f 0 n j j d h (omega arith) ∙ same j h)

-- Entries are made of an element of a list and an entry of a table, and the first i of k places are in use. Where place i is
-- written in the list and in the table, its entry comes behind the others.
pub listed_more : {A B X : Type 0} (make : A → B → X) (xs : List A) (d : A) (g h : ℕ → B) (i k : ℕ) (y : A) (b : B) → i < k → i < length xs → h ≡ upd g i b
    → map (λ j. make (get_or (set xs i y) j d) (h j)) (range_with_len 0 (min (i + 1) k)) ≡ map (λ j. make (get_or xs j d) (g j)) (range_with_len 0 (min i k)) ++ (make y b ∷ [])
listed_more {X = X} make xs d g h i k y b room long written =
    let new : ℕ → X = λ j. make (get_or (set xs i y) j d) (h j) in
    let old : ℕ → X = λ j. make (get_or xs j d) (g j) in
    let more : min (i + 1) k ≡ i + 1 = omega arith in
    let all : min i k ≡ i = omega arith in
    let last : new i ≡ make y b = ap₂ make (get_or-set_same xs i y d long) (ap (λ t. t i) written ∙ rw (eq-eqb i i refl)) in
    let others : map new (range_with_len 0 i) ≡ map old (range_with_len 0 i) =
    listed_same new old i (make y b) (λ j l.
    let apart : i ≡ j → ⊥ = λ e. omega arith in
    ap₂ make (get_or-set_other xs i j y d (λ e. omega arith)) (ap (λ t. t j) written ∙ rw (ne_eqb i j apart))) in
    rw (more, all) (map-range_with_len_more new 0 i i (omega arith) ∙ ap₂ (λ u v. u ++ (v ∷ [])) others last)
