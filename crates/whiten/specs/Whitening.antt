-- Whitening over a code: the bytes of a piece are combined by exclusive or with a mask that changes from byte to byte.
use Rattle.std.specs.Prelude.{ℕ, ◌+◌, ◌*◌, ◌%◌, List, [], map, bit_xor, slice_index, slice_index_or}
use Rattle.std.specs.List.{range_with_len}
use Rattle.code.specs.Meaning.{Meaning}

-- What byte b of piece i is combined with.
abbrev pub mask : ℕ → ℕ → ℕ
mask i b = (165 + 7 * i + b) % 256

-- Piece i of w bytes with its masks. Masked twice, a piece is as it was.
abbrev pub masked : ℕ → ℕ → List ℕ → List ℕ
masked w i p = map (λ b. bit_xor (slice_index p b) (mask i b)) (range_with_len 0 w)

-- Each of k pieces, which have these numbers, with its masks.
abbrev pub all_masked : ℕ → ℕ → List ℕ → List (List ℕ) → List (List ℕ)
all_masked k w is ps = map (λ m. masked w (slice_index is m) (slice_index_or ps m [])) (range_with_len 0 k)

-- The code whose pieces are those of another one with their masks.
abbrev pub whitened : Meaning → Meaning
whitened c = record {
  k = c.k;
  n = c.n;
  f = c.f;
  w = c.w;
  piece = λ x i. masked c.w i (c.piece x i);
  join = λ is ps. c.join is (all_masked c.k c.w is ps);
}
