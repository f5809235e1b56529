-- Pieces picked from nodes as a list, and what joining them gives.
use Rattle.std.proofs.Common.{◌≡◌, ℕ, ◌<◌, ◌≤◌, min, List, [], ◌∷◌, ◌++◌, length, take, Some, None, Option, sym, ap, subst, ◌∙◌, ap₂, arith}
use mathlib.Core.List.{map-map}
use Rattle.std.specs.List.{range_with_len}
use Rattle.std.proofs.lemmas.List.{length-append, length-map, take_all, take_at, map-append, append-nil}
use Rattle.std.proofs.lemmas.Bool.Decides.{nat_tests}
use Rattle.code.specs.Meaning.{Meaning, Chosen}
use Rattle.code.specs.Calls.{cut}
use Rattle.register.specs.Nodes.{Bytes}
use Rattle.register.specs.Reading.{Numbered, with_piece, numbers, contents, joined}
use Rattle.node.specs.declared.pieces.Pieces.{Pieces}
use Rattle.node.specs.Tagged.{piece_at, pieces}
use Rattle.node.specs.Picked.{numbered, parts}
use Rattle.node.proofs.Listed.{length_pieces, tags_are}

-- there are as many as the count says, and never more than k
pub length_parts : (m : Meaning) (p : Pieces ℕ 8) → length (parts m p) ≡ min p.count m.k
length_parts m p = length-map (pieces 0 m p) numbered ∙ length_pieces 0 m p

-- where fewer than k are there, the first k have room for one more
one_fits : (k : ℕ) (ps : List Numbered) (i : ℕ) (o : Option Bytes) → length ps < k → take k (ps ++ with_piece i o []) ≡ ps ++ with_piece i o []
one_fits k ps i None h = let l = length-append ps [] in take_all k (ps ++ []) (omega arith)
one_fits k ps i (Some b) h =
    let last : List Numbered = record { number = i; bytes = b } ∷ [] in
    let l = length-append ps last in
    take_all k (ps ++ last) (omega arith)

-- where k pieces are there
module _ (m : Meaning) (p : Pieces ℕ 8) (enough : length (numbers (parts m p)) ≡ m.k) (few : m.k ≤ length p.tags) where
  -- they stand in all k places
  all_there : min p.count m.k ≡ m.k
  all_there = sym (length_parts m p) ∙ sym (length-map (parts m p) (λ q. q.number)) ∙ enough

  -- their numbers are the first k
  numbers_are : numbers (parts m p) ≡ take m.k p.tags
  numbers_are = map-map (λ q. q.number) numbered (pieces 0 m p) ∙ tags_are 0 m p few ∙ ap (λ n. take n p.tags) all_there

  -- and their bytes the block cut into k places
  contents_are : contents (parts m p) ≡ cut m.k m.w p.bytes
  contents_are =
      map-map (λ q. q.bytes) numbered (pieces 0 m p) ∙ map-map (λ x. x.bytes) (piece_at 0 m.w p) (range_with_len 0 (min p.count m.k))
      ∙ ap (λ n. cut n m.w p.bytes) all_there

  -- so joining them joins what is in memory
  joined_is : joined m (parts m p) ≡ m.join (take m.k p.tags) (cut m.k m.w p.bytes)
  joined_is =
      let l = length_parts m p in
      let same = take_all m.k (parts m p) (omega arith) in
      ap (λ ps. m.join (numbers ps) (contents ps)) same ∙ ap₂ m.join numbers_are contents_are

-- where the numbers are chosen, the first k in memory are
pub joined_here : (m : Meaning) (p : Pieces ℕ 8) → m.k ≤ length p.tags → Chosen m.k m.n (numbers (parts m p))
    → Chosen m.k m.n (take m.k p.tags) × (joined m (parts m p) ≡ m.join (take m.k p.tags) (cut m.k m.w p.bytes))
joined_here m p few chosen =
    (subst (Chosen m.k m.n) (numbers_are m p chosen.count few) chosen, joined_is m p chosen.count few)

-- where k are there, one more changes nothing
pub full : (m : Meaning) (p : Pieces ℕ 8) (qs : List Numbered) → m.k ≤ p.count → take m.k (parts m p ++ qs) ≡ parts m p
full m p qs enough = let long = length_parts m p in take_at (parts m p) qs m.k (omega arith)

-- and else it is behind the others
pub behind : (m : Meaning) (p : Pieces ℕ 8) (i : ℕ) (o : Option Bytes) → p.count < m.k → take m.k (parts m p ++ with_piece i o []) ≡ parts m p ++ with_piece i o []
behind m p i o room = let long = length_parts m p in one_fits m.k (parts m p) i o (omega arith)

pub ruleset added = (nat_tests, full, behind, map-append, append-nil)
