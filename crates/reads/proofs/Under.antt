-- The record under a stamp, from what was gathered.
use Rattle.std.proofs.Common.{◌≡◌, ℕ, ◌<◌, ◌≤◌, min, Bool, true, false, cond, List, [], ◌++◌, length, take, Some as some, None as none, Option, sym, refl, ap, ◌∙◌, subst, append-nil, arith, length-take}
use Rattle.std.proofs.lemmas.List.{take_all}
use Rattle.std.proofs.lemmas.Bool.{le-leb, lt-leb}
use Rattle.code.specs.Meaning.{Meaning, Chosen}
use Rattle.record.specs.Layout.{is_record, lying_in}
use Rattle.register.specs.Stamps.{Stamp}
use Rattle.register.specs.Nodes.{Bytes, Node}
use Rattle.register.specs.Reading.{given, only_if, with_piece, if_record, Numbered, numbers, contents, joined, pieces, whole, record_under}
use Rattle.node.specs.declared.pieces.Pieces.{Pieces}
use Rattle.node.specs.Picked.{parts}
use Rattle.node.proofs.Picks.{length_parts}
use Rattle.register.proofs.Readable.{Rising, chosen, take_rising, pieces_rising}

-- the register's test and the record's are one
lies : (x : Bytes) → if_record (some x) ≡ lying_in x
lies x = go (is_record x)
  where
    go : (b : Bool) → given b x ≡ cond b (some x) none
    go true = refl
    go false = refl

module _ (m : Meaning) (Q : ℕ → Bool) (a : ℕ → Node) (t : Stamp) where
  -- a whole record is there
  pub record_whole : (x : Bytes) → whole Q a t 0 m.n ≡ some x → record_under m Q a t ≡ lying_in x
  unfolding record_under
  record_whole x e = rw e (lies x)

  module _ (ps : List Numbered) (all : ps ≡ take m.k (pieces Q a t 0 m.n)) where
    count_is : length ps ≡ min m.k (length (pieces Q a t 0 m.n))
    count_is = ap length all ∙ length-take m.k (pieces Q a t 0 m.n)

    -- the numbers of k gathered pieces rise
    pub may_join : m.k ≤ length ps → Chosen m.k m.n (numbers ps)
    may_join l =
        let c = count_is in
        chosen m.k m.n ps (omega arith)
        (subst (Rising 0 m.n) (sym all) (take_rising m.k 0 m.n (pieces Q a t 0 m.n) (pieces_rising Q a t 0 m.n m.n (omega arith))))

    joined_is : joined m ps ≡ joined m (pieces Q a t 0 m.n)
    joined_is =
        let p = pieces Q a t 0 m.n in
        let l = length-take m.k p in
        let e : take m.k ps ≡ take m.k p = ap (take m.k) all ∙ take_all m.k (take m.k p) (omega arith) in
        ap (λ q. m.join (numbers q) (contents q)) e

    module _ (no_whole : whole Q a t 0 m.n ≡ none) where
      pub too_few : length ps < m.k → record_under m Q a t ≡ none
      unfolding record_under
      too_few l = let c = count_is in rw (no_whole, lt-leb m.k (length (pieces Q a t 0 m.n)) (omega arith))

      pub enough : m.k ≤ length ps → (x : Bytes) → x ≡ joined m ps → record_under m Q a t ≡ lying_in x
      unfolding record_under
      enough l x e =
          let c = count_is in
          let z = e ∙ joined_is in
          rw (no_whole, le-leb m.k (length (pieces Q a t 0 m.n)) (omega arith), ← z) (lies x)

-- at most k pieces are picked
pub few_parts : (m : Meaning) (p : Pieces ℕ 8) → length (parts m p) ≤ m.k
few_parts m p = let e = length_parts m p in omega arith

-- a node that was not fetched adds no piece
pub none_added : (m : Meaning) (p : Pieces ℕ 8) (i : ℕ) (b : Bool) (o : Option Bytes) → b ≡ false
    → parts m p ≡ take m.k (parts m p ++ with_piece i (only_if b o) [])
none_added m p i b o e =
    rw e (sym (ap (take m.k) (append-nil (parts m p)) ∙ take_all m.k (parts m p) (few_parts m p)))
