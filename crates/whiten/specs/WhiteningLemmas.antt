-- Whitening over a code is a code.
use Rattle.std.specs.Prelude.{◌≡◌, ℕ, zero, suc, ◌+◌, ◌*◌, ◌/◌, ◌%◌, ◌<◌, ◌≤◌, List, [], map, length, get_or, take, drop, bit_xor, slice_index, slice_index_or}
use Rattle.std.proofs.Common.{sym, ap, ap₂, ◌∙◌, mod-lt, le_refl, arith, length-drop}
use Rattle.std.specs.Int.Bits.{xor_assoc, xor_self, xor_zero_r}
use Rattle.std.specs.List.{range_with_len}
use Rattle.std.proofs.lemmas.Nat.{div-mul-add, mod-mul-add, mul-le, xor_lt}
use Rattle.std.proofs.lemmas.List.FromFn.{length-map-range_with_len, get_or-map-range_with_len, take-map-range_with_len, fill_by_all}
use Rattle.std.proofs.lemmas.List.{ext_get_or, get_or-map, get_or-take, length-take-le, length-map}
use Rattle.code.specs.Bytes.{Bytes}
use Rattle.code.specs.Calls.{part, cut}
use Rattle.code.specs.Meaning.{Meaning, Lawful, Enough, Has, AllBytes}
use Rattle.code.proofs.Cuts.{part_at, cut_at, part_ends}
use Rattle.parity.specs.Lists.{made_bytes, piece_small, piece_long, below_at}
use Rattle.whiten.specs.Whitening.{mask, masked, all_masked, whitened}

mask_byte : (i b : ℕ) → mask i b < 256
mask_byte i b = mod-lt (165 + 7 * i + b) (omega arith)

back : (x y : ℕ) → bit_xor (bit_xor x y) y ≡ x
back x y = xor_assoc x y y ∙ ap (bit_xor x) (xor_self y) ∙ xor_zero_r x

pub masked_twice : (w i : ℕ) (p : List ℕ) → length p ≡ w → masked w i (masked w i p) ≡ p
masked_twice w i p h =
    sym
    (fill_by_all (λ b. bit_xor (slice_index (masked w i p) b) (mask i b)) p w 0 h
    (λ b hb.
    sym
    (ap (λ x. bit_xor x (mask i b)) (get_or-map-range_with_len (λ c. bit_xor (slice_index p c) (mask i c)) 0 w b b 0 hb (omega arith))
    ∙ back (slice_index p b) (mask i b))))

masked_bytes : (w i : ℕ) (p : List ℕ) → ((b : ℕ) → slice_index p b < 256) → Bytes w (masked w i p)
masked_bytes w i p h = made_bytes (λ b. bit_xor (slice_index p b) (mask i b)) (λ b. xor_lt 8 (slice_index p b) (mask i b) (h b) (mask_byte i b)) w

all_made : (w n a : ℕ) (f : ℕ → List ℕ) → ((m : ℕ) → Bytes w (f m)) → AllBytes w (map f (range_with_len a n))
all_made w zero a f h = tt
all_made w (suc n) a f h = (h a, all_made w n (a + 1) f h)

module _ (c : Meaning) (law : Lawful c) (is : List ℕ) (ps : List (List ℕ)) (e : Enough (whitened c) is ps) where
  plain_at : (m : ℕ) → m < c.k → slice_index_or (all_masked c.k c.w is ps) m [] ≡ masked c.w (slice_index is m) (slice_index_or ps m [])
  plain_at m h = get_or-map-range_with_len (λ j. masked c.w (slice_index is j) (slice_index_or ps j [])) 0 c.k m m [] h (omega arith)

  plain_enough : Enough c is (all_masked c.k c.w is ps)
  plain_enough = record {
    chosen = e.chosen;
    count = length-map-range_with_len (λ m. masked c.w (slice_index is m) (slice_index_or ps m [])) 0 c.k;
    bytes = all_made c.w c.k 0 (λ m. masked c.w (slice_index is m) (slice_index_or ps m []))
        (λ m. masked_bytes c.w (slice_index is m) (slice_index_or ps m []) (piece_small c.w ps e.bytes m));
  }

  back_at : (x : List ℕ) → map (c.piece x) is ≡ all_masked c.k c.w is ps → (m : ℕ) → m < length is → slice_index_or (map ((whitened c).piece x) is) m [] ≡ slice_index_or ps m []
  back_at x same m h =
      let four = e.chosen.count in
      let many = e.count in
      let i = get_or is m 0 in
      get_or-map ((whitened c).piece x) is m 0 [] h
      ∙ ap (masked c.w i) (sym (get_or-map (c.piece x) is m 0 [] h) ∙ ap (λ qs. get_or qs m []) same ∙ plain_at m (omega arith))
      ∙ masked_twice c.w i (slice_index_or ps m []) (piece_long c.w ps e.bytes m (omega arith))

  pub exist : Has (whitened c) is ps (c.join is (all_masked c.k c.w is ps))
  exist =
      let x = c.join is (all_masked c.k c.w is ps) in
      let h = law.exist is (all_masked c.k c.w is ps) plain_enough in
      let long = length-map is ((whitened c).piece x) in
      record {
        bytes = h.bytes;
        pieces = ext_get_or [] (map ((whitened c).piece x) is) ps (long ∙ e.chosen.count ∙ sym e.count) (λ m hm. back_at x h.pieces m (omega arith));
      }

  plain_back : (x : List ℕ) → Has (whitened c) is ps x → (m : ℕ) → m < c.k → slice_index_or (map (c.piece x) is) m [] ≡ masked c.w (slice_index is m) (slice_index_or ps m [])
  plain_back x has m h =
      let four = e.chosen.count in
      let i = get_or is m 0 in
      let l : m < length is = omega arith in
      let size = (law.piece_bytes x i has.bytes (below_at c.n is e.chosen.below m l)).long in
      get_or-map (c.piece x) is m 0 [] l
      ∙ sym (masked_twice c.w i (c.piece x i) size)
      ∙ ap (masked c.w i) (sym (get_or-map ((whitened c).piece x) is m 0 [] l) ∙ ap (λ qs. get_or qs m []) has.pieces)

  pub only : (x : List ℕ) → Has (whitened c) is ps x → x ≡ c.join is (all_masked c.k c.w is ps)
  only x has =
      law.only is (all_masked c.k c.w is ps) x plain_enough
      (record {
        bytes = has.bytes;
        pieces = fill_by_all (λ m. masked c.w (slice_index is m) (slice_index_or ps m [])) (map (c.piece x) is) c.k [] (length-map is (c.piece x) ∙ e.chosen.count)
            (plain_back x has);
      })

pub lawful : (c : Meaning) → Lawful c → Lawful (whitened c)
lawful c law = record {
  needed = law.needed;
  silent = law.silent;
  sizes = law.sizes;
  nodes = law.nodes;
  few = law.few;
  piece_bytes = λ x i b h. masked_bytes c.w i (c.piece x i) (law.piece_bytes x i b h).small;
  exist = λ is ps e. exist c law is ps e;
  only = λ is ps x e has. only c law is ps e x has;
}

-- what a piece has after it does not count
pub masked_front : (w i : ℕ) (wide p : List ℕ) → w ≤ 24 → take w wide ≡ p → take w (masked 24 i wide) ≡ masked w i p
masked_front w i wide p le front =
    take-map-range_with_len (λ b. bit_xor (slice_index wide b) (mask i b)) 0 24 w le
    ∙ fill_by_all (λ b. bit_xor (slice_index p b) (mask i b)) (masked w i wide) w 0 (length-map-range_with_len (λ b. bit_xor (slice_index wide b) (mask i b)) 0 w)
    (λ b h.
    get_or-map-range_with_len (λ j. bit_xor (slice_index wide j) (mask i j)) 0 w b b 0 h (omega arith)
    ∙ ap (λ v. bit_xor v (mask i b)) (sym (get_or-take w wide b 0 h) ∙ ap (λ q. slice_index q b) front))

-- pieces that lie one after the other
pub parts_masked : (k w : ℕ) (numbers x y : List ℕ) → k * w ≡ 24 → length y ≡ 24
    → ((j : ℕ) → j < 24 → slice_index y j ≡ bit_xor (slice_index x j) (mask (slice_index numbers (j / w)) (j % w)))
    → cut k w y ≡ all_masked k w (take k numbers) (cut k w x)
parts_masked k w numbers x y size long each =
    fill_by_all (λ m. masked w (slice_index (take k numbers) m) (slice_index_or (cut k w x) m [])) (cut k w y) k [] (length-map-range_with_len (part w y) 0 k)
    (λ m hm.
    let ends = part_ends w m k hm in
    let room = length-drop (m * w) y in
    let fits : w ≤ length (drop (m * w) y) = omega arith in
    get_or-map-range_with_len (part w y) 0 k m m [] hm (omega arith)
    ∙ fill_by_all (λ b. bit_xor (slice_index (slice_index_or (cut k w x) m []) b) (mask (slice_index (take k numbers) m) b)) (part w y m) w 0 (length-take-le w (drop (m * w) y) fits)
    (λ b hb.
    part_at w y m b hb ∙ each (m * w + b) (omega arith)
    ∙ ap₂ bit_xor (sym (cut_at k w x m b hm hb))
    (ap₂ (λ p q. mask (slice_index numbers p) q) (div-mul-add m w b hb) (mod-mul-add m w b hb) ∙ ap (λ i. mask i b) (sym (get_or-take k numbers m 0 hm)))))

pub width_least : (c : Meaning) → Lawful c → 3 ≤ c.w
width_least c law =
    let few = law.few in
    let nodes = law.nodes in
    let sizes = law.sizes in
    let le : c.k ≤ 8 = omega arith in
    let up = mul-le c.k c.w 8 c.w le (le_refl c.w) in
    omega arith
