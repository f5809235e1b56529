-- Folds over the nodes of a round, one node at a time.
use Rattle.std.proofs.Common.{◌≡◌, ℕ, zero, suc, ◌+◌, ◌-◌, ◌<◌, ◌≤◌, max, Bool, true, false, cond, List, [], ◌∷◌, ◌++◌, length, take, Some as some, None as none, Option, sym, refl, ap, ◌∙◌, append_assoc, append-nil, add-one, arith}
use Rattle.std.proofs.lemmas.List.{take_all}
use Rattle.register.specs.Stamps.{Stamp, higher}
use Rattle.register.specs.Nodes.{Bytes, Node}
use Rattle.register.specs.Reading.{or_else, only_if, Numbered, with_piece, node_piece, pieces, spare_record, whole, node_stamps, stamps, top_floor, list_count, top_count}

take_front : {A : Type 0} (k : ℕ) (us zs : List A) → take k (us ++ zs) ≡ take k (take k us ++ zs)
take_front zero us zs = refl
take_front (suc k) [] zs = refl
take_front (suc k) (u ∷ us) zs = ap (λ v. u ∷ v) (take_front k us zs)

with_split : (i : ℕ) (o : Option Bytes) (ps : List Numbered) → with_piece i o ps ≡ with_piece i o [] ++ ps
with_split i none ps = refl
with_split i (some b) ps = refl

module _ (Q : ℕ → Bool) (a : ℕ → Node) (i n : ℕ) where
  -- the nodes from i on are node i and those after it
  rest : i < n → n - i ≡ suc (n - (i + 1))
  rest l = omega arith

  none_left : n ≤ i → n - i ≡ 0
  none_left l = omega arith

  pub floor_more : (s : Stamp) → i < n → top_floor Q a s i (n - i) ≡ top_floor Q a (cond (Q i) (higher s (a i).floor) s) (i + 1) (n - (i + 1))
  unfolding top_floor
  floor_more s l = rw (rest l, add-one i)

  pub floor_all : (s : Stamp) → n ≤ i → top_floor Q a s i (n - i) ≡ s
  unfolding top_floor
  floor_all s l = rw (none_left l)

  pub count_more : i < n
      → top_count Q a i (n - i) ≡ max (cond (Q i) (list_count (a i).floor.count (node_stamps (a i))) 0) (top_count Q a (i + 1) (n - (i + 1)))
  unfolding top_count
  count_more l = rw (rest l, add-one i)

  pub count_all : n ≤ i → top_count Q a i (n - i) ≡ 0
  unfolding top_count
  count_all l = rw (none_left l)

  pub stamps_more : i < n → stamps Q a i (n - i) ≡ cond (Q i) (node_stamps (a i)) [] ++ stamps Q a (i + 1) (n - (i + 1))
  unfolding stamps
  stamps_more l = rw (rest l, add-one i) (go (Q i) (node_stamps (a i)) (stamps Q a (suc i) (n - suc i)))
    where
      go : (b : Bool) (u v : List Stamp) → cond b (u ++ v) v ≡ cond b u [] ++ v
      go true u v = refl
      go false u v = refl

  pub stamps_all : n ≤ i → stamps Q a i (n - i) ≡ []
  unfolding stamps
  stamps_all l = rw (none_left l)

  module _ (t : Stamp) where
    pieces_more : i < n → pieces Q a t i (n - i) ≡ with_piece i (only_if (Q i) (node_piece t (a i))) (pieces Q a t (i + 1) (n - (i + 1)))
    unfolding pieces
    pieces_more l = rw (rest l, add-one i)

    -- the first k of the pieces gathered and of those still to come stay the same
    pub gather_more : (k : ℕ) (ps ps' : List Numbered) → i < n → ps' ≡ take k (ps ++ with_piece i (only_if (Q i) (node_piece t (a i))) [])
        → take k (ps ++ pieces Q a t i (n - i)) ≡ take k (ps' ++ pieces Q a t (i + 1) (n - (i + 1)))
    gather_more k ps ps' l e =
        let o = only_if (Q i) (node_piece t (a i)) in
        let later = pieces Q a t (i + 1) (n - (i + 1)) in
        ap (λ v. take k (ps ++ v)) (pieces_more l ∙ with_split i o later)
        ∙ ap (take k) (sym (append_assoc ps (with_piece i o []) later))
        ∙ take_front k (ps ++ with_piece i o []) later
        ∙ ap (λ v. take k (v ++ later)) (sym e)

    pub gather_all : (k : ℕ) (ps : List Numbered) → n ≤ i → length ps ≤ k → take k (ps ++ pieces Q a t i (n - i)) ≡ ps
    unfolding pieces
    gather_all k ps l h = rw (none_left l) (ap (take k) (append-nil ps) ∙ take_all k ps h)

    whole_more : i < n → whole Q a t i (n - i) ≡ or_else (only_if (Q i) (spare_record t (a i).spare)) (whole Q a t (i + 1) (n - (i + 1)))
    unfolding whole
    whole_more l = rw (rest l, add-one i)

    pub whole_here : i < n → (x : Bytes) → only_if (Q i) (spare_record t (a i).spare) ≡ some x → whole Q a t i (n - i) ≡ some x
    whole_here l x e = whole_more l ∙ ap (λ o. or_else o (whole Q a t (i + 1) (n - (i + 1)))) e

    pub whole_next : i < n → only_if (Q i) (spare_record t (a i).spare) ≡ none → whole Q a t i (n - i) ≡ whole Q a t (i + 1) (n - (i + 1))
    whole_next l e = whole_more l ∙ ap (λ o. or_else o (whole Q a t (i + 1) (n - (i + 1)))) e

    pub whole_all : n ≤ i → whole Q a t i (n - i) ≡ none
    unfolding whole
    whole_all l = rw (none_left l)
