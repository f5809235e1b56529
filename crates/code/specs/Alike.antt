-- Copies are a lawful code: the one piece that is taken is the record.
use Rattle.std.specs.Prelude.{◌≡◌, ℕ, ◌≤◌, List, [], ◌∷◌, map, length, slice_index_or, refl}
use Rattle.std.proofs.Common.{sym, ap, ◌∙◌, arith}
use Rattle.code.specs.Bytes.{Bytes}
use Rattle.code.specs.Meaning.{Lawful, AllBytes}
use Rattle.code.specs.Copies.{copies}

-- one number and one piece
alike : (is : List ℕ) (ps : List (List ℕ)) → length is ≡ 1 → length ps ≡ 1 → AllBytes 24 ps
    → Bytes 24 (slice_index_or ps 0 []) × (map (λ i. slice_index_or ps 0 []) is ≡ ps)
alike (i ∷ []) (p ∷ []) h k a = (a.0, refl)
alike [] ps h k a = absurd (let z : ◌≡◌ {A = ℕ} 0 1 = h in omega arith)
alike (i ∷ j ∷ is) ps h k a = absurd (omega arith)
alike (i ∷ []) [] h k a = absurd (let z : ◌≡◌ {A = ℕ} 0 1 = k in omega arith)
alike (i ∷ []) (p ∷ q ∷ ps) h k a = absurd (omega arith)

taken : (is : List ℕ) (x : List ℕ) → length is ≡ 1 → slice_index_or (map (λ i. x) is) 0 [] ≡ x
taken (i ∷ is) x h = refl
taken [] x h = absurd (let z : ◌≡◌ {A = ℕ} 0 1 = h in omega arith)

pub lawful : (f : ℕ) → 1 ≤ f → f ≤ 3 → Lawful (copies f)
lawful f low high = record {
  needed = omega arith;
  silent = low;
  sizes = refl;
  nodes = refl;
  few = omega arith;
  piece_bytes = λ x i b h. b;
  exist = λ is ps e. let a = alike is ps e.chosen.count e.count e.bytes in record { bytes = a.0; pieces = a.1 };
  only = λ is ps x e h. sym (taken is x e.chosen.count) ∙ ap (λ qs. slice_index_or qs 0 []) h.pieces;
}

-- how many copies may be spare: one and two are among them
pub one_some : 1 ≤ 1
one_some = omega arith

pub one_few : 1 ≤ 3
one_few = omega arith

pub two_some : 1 ≤ 2
two_some = omega arith

pub two_few : 2 ≤ 3
two_few = omega arith
