-- Pieces as a list, whatever their tags are.
use Rattle.std.proofs.Common.{◌≡◌, ℕ, ◌<◌, ◌≤◌, min, map, length, get_or, take, sym, ◌∙◌, arith}
use mathlib.Core.List.{map-map}
use Rattle.std.specs.List.{range_with_len}
use Rattle.std.proofs.lemmas.List.FromFn.{length-map-range_with_len, get_or-map-range_with_len, fill_by_all}
use Rattle.std.proofs.lemmas.List.{length-take-le, get_or-take}
use Rattle.code.specs.Meaning.{Meaning}
use Rattle.node.specs.declared.pieces.Pieces.{Pieces}
use Rattle.node.specs.Tagged.{Tagged, piece_at, pieces}

module _ {A : Type 0} {max : ℕ} (d : A) (m : Meaning) (p : Pieces A max) where
  -- there are as many as the count says, and never more than k
  pub length_pieces : length (pieces d m p) ≡ min p.count m.k
  length_pieces = length-map-range_with_len (piece_at d m.w p) 0 (min p.count m.k)

  -- the piece at place j
  pub pieces_at : (j : ℕ) (z : Tagged A) → j < min p.count m.k → get_or (pieces d m p) j z ≡ piece_at d m.w p j
  pieces_at j z h = get_or-map-range_with_len (piece_at d m.w p) 0 (min p.count m.k) j j z h (omega arith)

  -- their tags are the first ones
  pub tags_are : m.k ≤ length p.tags → map (λ x. x.tag) (pieces d m p) ≡ take (min p.count m.k) p.tags
  tags_are few =
      let n = min p.count m.k in
      map-map (λ x. x.tag) (piece_at d m.w p) (range_with_len 0 n)
      ∙ sym (fill_by_all (λ j. get_or p.tags j d) (take n p.tags) n d (length-take-le n p.tags (omega arith)) (λ j h. get_or-take n p.tags j d h))
