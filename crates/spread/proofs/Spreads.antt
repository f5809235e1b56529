-- What nodes hold, one node at a time.
use Rattle.std.proofs.Common.{◌≡◌, ℕ, zero, suc, ◌+◌, List, [], ◌∷◌, ◌++◌, map, vec_items, Vec, refl, sym, ap, ◌∙◌, ap₂, arith}
use Rattle.std.specs.List.{All, range_with_len, zip}
use Rattle.std.specs.declared.alloc.Global.{Global}
use Rattle.std.proofs.lemmas.List.FromFn.{map-range_with_len_more}
use Rattle.std.proofs.lemmas.List.{map-append}
use Rattle.std.proofs.lemmas.List.Elements.{All-nil, All-cons, All-head, All-tail}
use Rattle.code.specs.declared.calls.Piece.{Piece}
use Rattle.code.specs.Calls.{contents_of, numbers_of}
use Rattle.spread.specs.Trials.{held}

-- one node more
pub next_node : (piece : ℕ → List ℕ) (pieces : List (Vec ℕ Global)) (v : Vec ℕ Global) (i : ℕ) → held pieces ≡ map piece (range_with_len 0 i) → vec_items v ≡ piece i
    → held (pieces ++ (v ∷ [])) ≡ map piece (range_with_len 0 (i + 1))
next_node piece pieces v i s e =
    map-append vec_items pieces (v ∷ [])
    ∙ ap₂ (λ a b. a ++ (b ∷ [])) s e
    ∙ sym (map-range_with_len_more piece 0 i i (omega arith))

-- what a piece shows, and what a node with its number holds
abbrev pub shown : Piece → ℕ × List ℕ
shown p = (p.number, p.bytes.now)

abbrev pub holding : ℕ × Vec ℕ Global → ℕ × List ℕ
holding e = (e.0, vec_items e.1)

module _ (piece : ℕ → List ℕ) where
  -- the node holds the piece of its number
  abbrev pub Holds : ℕ × Vec ℕ Global → Type 0
  Holds e = vec_items e.1 ≡ piece e.0

  -- the nodes with their numbers, from i on
  pub numbered : (i n : ℕ) (pieces : List (Vec ℕ Global)) → held pieces ≡ map piece (range_with_len i n) → All Holds (zip (range_with_len i n) pieces)
  numbered i zero pieces e = All-nil Holds
  numbered i (suc n) [] e = All-nil Holds
  numbered i (suc n) (v ∷ vs) e = All-cons Holds (i, v) (zip (range_with_len (i + 1) n) vs) (cc) (numbered (i + 1) n vs (cc))

  -- pieces that show what some of the nodes hold are pieces at their numbers
  pub of_numbered : (ps : List Piece) (es : List (ℕ × Vec ℕ Global)) → All Holds es → map shown ps ≡ map holding es → contents_of ps ≡ map piece (numbers_of ps)
  of_numbered [] es a e = refl
  of_numbered (p ∷ ps) [] a e = cc
  of_numbered (p ∷ ps) (x ∷ es) a e =
      let here : vec_items x.1 ≡ piece x.0 = All-head Holds x es a in
      let pair : shown p ≡ holding x = cc in
      let number : p.number ≡ x.0 = ap (λ (q : ℕ × List ℕ). q.0) pair in
      let bytes : p.bytes.now ≡ vec_items x.1 = ap (λ (q : ℕ × List ℕ). q.1) pair in
      let rest : contents_of ps ≡ map piece (numbers_of ps) = of_numbered ps es (All-tail Holds x es a) (cc) in
      ap₂ (λ b bs. b ∷ bs) (bytes ∙ here ∙ ap piece (sym number)) rest
