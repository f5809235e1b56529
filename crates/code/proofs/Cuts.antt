-- Pieces that lie one after the other.
use Rattle.std.proofs.Common.{◌≡◌, ℕ, ◌+◌, ◌-◌, ◌*◌, ◌<◌, ◌≤◌, true, eqb, List, [], ◌∷◌, map, length, get_or, take, drop, sym, ap, ◌∙◌, subst, ⊎_elim, mul-le-mul_right, add-mul, arith}
use borrow.Rule.Slice.PartMut.{put_mid}
use Rattle.std.proofs.lemmas.List.FromFn.{get_or-map-range_with_len, fill_by_all}
use Rattle.std.proofs.lemmas.List.Edits.{length-between}
use Rattle.std.proofs.lemmas.List.{get_or-take, get_or-drop, get_or_past, drop-take, length-take}
use Rattle.std.proofs.lemmas.Slice.{take-put_mid_below, between-put_mid}
use Rattle.std.proofs.lemmas.Bool.{and_parts, eqb-true, cases_lt}
use Rattle.code.specs.Meaning.{AllBytes}
use Rattle.code.specs.Calls.{all_long, part, cut}

-- byte b of piece m
pub part_at : (w : ℕ) (x : List ℕ) (m b : ℕ) → b < w → get_or (part w x m) b 0 ≡ get_or x (m * w + b) 0
part_at w x m b h = get_or-take w (drop (m * w) x) b 0 h ∙ get_or-drop (m * w) x b 0

pub cut_at : (k w : ℕ) (x : List ℕ) (m b : ℕ) → m < k → b < w → get_or (get_or (cut k w x) m []) b 0 ≡ get_or x (m * w + b) 0
cut_at k w x m b hm hb =
    ap (λ p. get_or p b 0) (get_or-map-range_with_len (part w x) 0 k m m [] hm (omega arith)) ∙ part_at w x m b hb

-- the pieces are ps if each of them is
pub cut_by : (k w : ℕ) (x : List ℕ) (ps : List (List ℕ)) → length ps ≡ k → ((m : ℕ) → m < k → part w x m ≡ get_or ps m []) → cut k w x ≡ ps
cut_by k w x ps size each = sym (fill_by_all (part w x) ps k [] size (λ m h. sym (each m h)))

-- a piece ends where the next begins, or before
pub part_ends : (w m i : ℕ) → m < i → m * w + w ≤ i * w
part_ends w m i h = let e = add-mul m 1 w in let l = mul-le-mul_right w h in omega arith

-- the place of piece m is as long as a piece
pub part_room : (w : ℕ) (x : List ℕ) (m : ℕ) → m * w + w ≤ length x → length (take (m * w + w - m * w) (drop (m * w) x)) ≡ w
part_room w x m h = let e : m * w + w - m * w ≡ w = omega arith in length-between x (m * w) (m * w + w) h ∙ e

-- writing piece i leaves those before it
pub part_before : (w : ℕ) (x p : List ℕ) (k m i : ℕ) → m < i → i * w ≤ length x → part w (put_mid (i * w) k x p) m ≡ part w x m
part_before w x p k m i h inside =
    sym (drop-take (m * w) w (put_mid (i * w) k x p))
    ∙ ap (drop (m * w)) (take-put_mid_below (i * w) k x p (m * w + w) (part_ends w m i h) inside)
    ∙ drop-take (m * w) w x

-- and puts it in its place
pub part_here : (w : ℕ) (x p : List ℕ) (k i : ℕ) → length p ≡ w → i * w ≤ length x → part w (put_mid (i * w) k x p) i ≡ p
part_here w x p k i size inside =
    let e : i * w + w - i * w ≡ w = omega arith in
    ap (λ n. take n (drop (i * w) (put_mid (i * w) k x p))) (sym e)
    ∙ between-put_mid (i * w) k x p (i * w + w) inside (size ∙ sym e)

-- parts of bytes are bytes
module _ (w : ℕ) (x : List ℕ) (small : (j : ℕ) → get_or x j 0 < 256) where
  part_small : (m b : ℕ) → get_or (part w x m) b 0 < 256
  part_small m b =
      ⊎_elim
      (λ h. subst (λ (v : ℕ). v < 256) (sym (part_at w x m b h)) (small (m * w + b)))
      (λ h.
      let l = length-take w (drop (m * w) x) in
      let past : length (part w x m) ≤ b = omega arith in
      subst (λ (v : ℕ). v < 256) (sym (get_or_past (part w x m) b 0 past)) (omega arith))
      (cases_lt b w)

  pub parts_bytes : (is : List ℕ) → all_long w (map (part w x) is) ≡ true → AllBytes w (map (part w x) is)
  parts_bytes [] t = tt
  parts_bytes (i ∷ is) t =
      let both = and_parts (eqb (length (part w x i)) w) (all_long w (map (part w x) is)) t in
      (record { long = eqb-true (length (part w x i)) w both.0; small = part_small i }, parts_bytes is both.1)
