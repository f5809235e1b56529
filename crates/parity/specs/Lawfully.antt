-- A code by factors is lawful where the test of its factors passes.
use Rattle.std.proofs.Common.{◌≡◌, ℕ, ◌+◌, ◌*◌, ◌/◌, ◌%◌, ◌<◌, ◌≤◌, ◌&&◌, T, eqb, ltb, leb, List, [], map, length, get_or, sym, refl, ap, ◌∙◌, mod-lt, div-add-mod', arith, eqb→eq, ltb→lt, leb→le}
use lib.ListN.{length-map}
use Rattle.std.proofs.lemmas.Nat.{div_below}
use Rattle.std.proofs.lemmas.List.FromFn.{get_or-map-range_with_len, fill_by_all}
use Rattle.std.proofs.lemmas.List.{ext_get_or, get_or-map}
use Rattle.code.specs.Bytes.{Bytes}
use Rattle.code.specs.Meaning.{Lawful, Chosen, AllBytes}
use Rattle.field.specs.Polynomials.{dot}
use Rattle.field.specs.Tested.{below}
use Rattle.field.proofs.Tested.{left, right, at}
use Rattle.field.specs.Matrix.{entry, unit, inverted, undone, all_bytes, inverses}
use Rattle.parity.specs.Rows.{six, row_byte, solved, chosen_rows, row_code}
use Rattle.parity.specs.Solvable.{each_four, solvable}
use Rattle.parity.specs.Sums.{dot_same, dot_byte, undoes, same_inverse}
use Rattle.parity.specs.Lists.{same_made, made_bytes, piece_small, piece_long, below_at, solved_at}
use Rattle.parity.specs.Choices.{chosen_passes}

undone_at : (a b : List (List ℕ)) → T (undone a b) → (r c : ℕ) → r < 4 → c < 4 → dot (entry a r) (λ j. entry b j c) ≡ unit r c
undone_at a b t r c hr hc =
    eqb→eq (dot (entry a r) (λ j. entry b j c)) (unit r c)
    (at (λ y. eqb (dot (entry a r) (λ j. entry b j y)) (unit r y)) 4
    (at (λ x. below (λ y. eqb (dot (entry a x) (λ j. entry b j y)) (unit x y)) 4) 4 t r hr) c hc)

bytes_at : (n : ℕ) (m : List (List ℕ)) → T (all_bytes n m) → (r c : ℕ) → r < n → c < 4 → entry m r c < 256
bytes_at n m t r c hr hc =
    ltb→lt (entry m r c) 256 (at (λ y. ltb (entry m r y) 256) 4 (at (λ x. below (λ y. ltb (entry m x y) 256) 4) n t r hr) c hc)

-- four chosen pieces, and a matrix that undoes their factors
module _ (factors : List (List ℕ)) (n : ℕ) (bytes : (i j : ℕ) → i < n → j < 4 → entry factors i j < 256) (is : List ℕ) (chosen : Chosen 4 n is) (s : List (List ℕ)) (test : T (inverses (chosen_rows factors is) s)) where
  row_at : (r : ℕ) → r < 4 → (j : ℕ) → entry (chosen_rows factors is) r j ≡ entry factors (get_or is r 0) j
  row_at r h j = let e = chosen.count in ap (λ row. get_or row j 0) (get_or-map (λ i. get_or factors i []) is r 0 [] (omega arith))

  factor_byte : (r j : ℕ) → r < 4 → j < 4 → entry factors (get_or is r 0) j < 256
  factor_byte r j hr hj = let e = chosen.count in bytes (get_or is r 0) j (below_at n is chosen.below r (omega arith)) hj

  solution_byte : (r j : ℕ) → r < 4 → j < 4 → entry s r j < 256
  solution_byte r j hr hj = bytes_at 4 s (left (all_bytes 4 s) _ test) r j hr hj

  both : T (undone (chosen_rows factors is) s && undone s (chosen_rows factors is))
  both = right (all_bytes 4 s) _ test

  factors_undo : (r c : ℕ) → r < 4 → c < 4 → dot (entry factors (get_or is r 0)) (λ j. entry s j c) ≡ unit r c
  factors_undo r c hr hc =
      dot_same (entry factors (get_or is r 0)) (entry (chosen_rows factors is) r) (λ j. entry s j c) (λ j. entry s j c) (λ j hj. sym (row_at r hr j)) (λ j hj. refl)
      ∙ undone_at (chosen_rows factors is) s (left _ (undone s (chosen_rows factors is)) both) r c hr hc

  solution_undoes : (r c : ℕ) → r < 4 → c < 4 → dot (entry s r) (λ j. entry factors (get_or is j 0) c) ≡ unit r c
  solution_undoes r c hr hc =
      dot_same (entry s r) (entry s r) (λ j. entry factors (get_or is j 0) c) (λ j. entry (chosen_rows factors is) j c) (λ j hj. refl) (λ j hj. sym (row_at j hj c))
      ∙ undone_at s (chosen_rows factors is) (right (undone (chosen_rows factors is) s) _ both) r c hr hc

  abbrev piece : List ℕ → ℕ → List ℕ
  piece x i = six (λ b. dot (entry factors i) (λ j. row_byte x j b))

  piece_back : (ps : List (List ℕ)) → length ps ≡ 4 → AllBytes 6 ps → (r : ℕ) → r < 4 → piece (solved s ps) (get_or is r 0) ≡ get_or ps r []
  piece_back ps count a r hr =
      sym
      (fill_by_all (λ b. dot (entry factors (get_or is r 0)) (λ j. row_byte (solved s ps) j b)) (get_or ps r []) 6 0 (piece_long 6 ps a r (omega arith))
      (λ b hb.
      sym
      (dot_same (entry factors (get_or is r 0)) (entry factors (get_or is r 0)) (λ j. row_byte (solved s ps) j b) (λ j. dot (entry s j) (λ m. entry ps m b))
      (λ j hj. refl) (λ j hj. solved_at s ps j b hj hb)
      ∙ undoes (λ i. entry factors (get_or is i 0)) (entry s) (λ m. entry ps m b) r hr factor_byte solution_byte (λ m hm. piece_small 6 ps a m b)
      (λ c hc. factors_undo r c hr hc))))

  pub pieces_back : (ps : List (List ℕ)) → length ps ≡ 4 → AllBytes 6 ps → map (piece (solved s ps)) is ≡ ps
  pieces_back ps count a =
      ext_get_or [] (map (piece (solved s ps)) is) ps (length-map is (piece (solved s ps)) ∙ chosen.count ∙ sym count)
      (λ r hr.
      let long = length-map is (piece (solved s ps)) in
      let four = chosen.count in
      let l : r < length is = omega arith in
      get_or-map (piece (solved s ps)) is r 0 [] l ∙ piece_back ps count a r (omega arith))

  piece_at : (x : List ℕ) (m b : ℕ) → m < 4 → b < 6 → entry (map (piece x) is) m b ≡ dot (entry factors (get_or is m 0)) (λ l. row_byte x l b)
  piece_at x m b hm hb =
      let four = chosen.count in
      ap (λ p. get_or p b 0) (get_or-map (piece x) is m 0 [] (omega arith))
      ∙ get_or-map-range_with_len (λ u. dot (entry factors (get_or is m 0)) (λ l. row_byte x l u)) 0 6 b b 0 hb (omega arith)

  pub record_back : (x : List ℕ) → Bytes 24 x → x ≡ solved s (map (piece x) is)
  record_back x bx =
      fill_by_all (λ t. dot (entry s (t / 6)) (λ j. entry (map (piece x) is) j (t % 6))) x 24 0 bx.long
      (λ t ht.
      let hr : t / 6 < 4 = div_below t 6 4 (omega arith) (omega arith) in
      let hb : t % 6 < 6 = mod-lt t (omega arith) in
      sym
      (dot_same (entry s (t / 6)) (entry s (t / 6)) (λ j. entry (map (piece x) is) j (t % 6)) (λ m. dot (entry factors (get_or is m 0)) (λ l. row_byte x l (t % 6)))
      (λ j hj. refl) (λ m hm. piece_at x m (t % 6) hm hb)
      ∙ undoes (entry s) (λ i. entry factors (get_or is i 0)) (λ l. row_byte x l (t % 6)) (t / 6) hr solution_byte factor_byte
      (λ l hl. bx.small (l * 6 + t % 6)) (λ c hc. solution_undoes (t / 6) c hr hc)
      ∙ ap (λ p. get_or x p 0) (div-add-mod' t 6)))

-- two matrices that undo the factors of four chosen pieces
pub same_solution : (factors : List (List ℕ)) (n : ℕ) (bytes : (i j : ℕ) → i < n → j < 4 → entry factors i j < 256) (is : List ℕ) (chosen : Chosen 4 n is) (s t : List (List ℕ))
    → T (inverses (chosen_rows factors is) s) → T (inverses (chosen_rows factors is) t) → (ps : List (List ℕ)) → solved s ps ≡ solved t ps
same_solution factors n bytes is chosen s t hs ht ps =
    same_made 24 (λ k. dot (entry s (k / 6)) (λ j. entry ps j (k % 6))) (λ k. dot (entry t (k / 6)) (λ j. entry ps j (k % 6)))
    (λ k hk.
    let hr : k / 6 < 4 = div_below k 6 4 (omega arith) (omega arith) in
    dot_same (entry s (k / 6)) (entry t (k / 6)) (λ j. entry ps j (k % 6)) (λ j. entry ps j (k % 6))
    (λ j hj.
    same_inverse (entry s) (λ i. entry factors (get_or is i 0)) (entry t) (solution_byte factors n bytes is chosen s hs) (factor_byte factors n bytes is chosen s hs)
    (solution_byte factors n bytes is chosen t ht) (solution_undoes factors n bytes is chosen s hs) (factors_undo factors n bytes is chosen t ht) (k / 6) j hr hj)
    (λ j hj. refl))

-- what the test says
module _ (factors : List (List ℕ)) (f : ℕ) (test : T (solvable factors f)) where
  pub spares : 1 ≤ f
  unfolding solvable
  spares = leb→le 1 f (left (leb 1 f) _ test)

  pub nodes : length factors ≡ 2 * f + 4
  unfolding solvable
  nodes = eqb→eq (length factors) (2 * f + 4) (left (eqb (length factors) (2 * f + 4)) _ (right (leb 1 f) _ test))

  past_nodes : T (leb (length factors) 8 && (all_bytes (length factors) factors && each_four (length factors) (λ is. inverses (chosen_rows factors is) (inverted (chosen_rows factors is)))))
  unfolding solvable
  past_nodes = right (eqb (length factors) (2 * f + 4)) _ (right (leb 1 f) _ test)

  pub few : length factors ≤ 8
  few = leb→le (length factors) 8 (left (leb (length factors) 8) _ past_nodes)

  pub factor_bytes : (i j : ℕ) → i < length factors → j < 4 → entry factors i j < 256
  factor_bytes i j hi hj =
      bytes_at (length factors) factors (left (all_bytes (length factors) factors) _ (right (leb (length factors) 8) _ past_nodes)) i j hi hj

  pub inverses_at : (is : List ℕ) → Chosen 4 (length factors) is → T (inverses (chosen_rows factors is) (inverted (chosen_rows factors is)))
  inverses_at is c =
      chosen_passes (length factors) (λ js. inverses (chosen_rows factors js) (inverted (chosen_rows factors js)))
      (right (all_bytes (length factors) factors) _ (right (leb (length factors) 8) _ past_nodes)) is c

  pub lawful : Lawful (row_code factors f)
  lawful = record {
    needed = omega arith;
    silent = spares;
    sizes = refl;
    nodes = nodes;
    few = few;
    piece_bytes = λ x i b h. made_bytes (λ t. dot (entry factors i) (λ j. row_byte x j t)) (λ t. dot_byte (entry factors i) (λ j. row_byte x j t) (λ j. b.small (j * 6 + t))) 6;
    exist = λ is ps e. record {
      bytes = made_bytes (λ t. dot (entry (inverted (chosen_rows factors is)) (t / 6)) (λ j. entry ps j (t % 6)))
          (λ t. dot_byte (entry (inverted (chosen_rows factors is)) (t / 6)) (λ j. entry ps j (t % 6)) (λ j. piece_small 6 ps e.bytes j (t % 6))) 24;
      pieces = pieces_back factors (length factors) factor_bytes is e.chosen (inverted (chosen_rows factors is)) (inverses_at is e.chosen) ps e.count e.bytes;
    };
    only = λ is ps x e h.
        record_back factors (length factors) factor_bytes is e.chosen (inverted (chosen_rows factors is)) (inverses_at is e.chosen) x h.bytes
        ∙ ap (solved (inverted (chosen_rows factors is))) h.pieces;
  }
