-- The latest of what is found, and the highest count, part by part of a list of stamps.
use Rattle.std.proofs.Common.{◌≡◌, ℕ, max, Bool, true, false, cond, List, [], ◌∷◌, ◌++◌, Some as some, None as none, Option, sym, refl, ap, ◌∙◌, arith}
use Rattle.code.specs.Meaning.{Meaning}
use Rattle.register.specs.Stamps.{Stamp, below}
use Rattle.register.specs.Nodes.{Node}
use Rattle.register.specs.Reading.{Rebuilt, later, under, record_under, highest, list_count}
use Rattle.register.proofs.Order.{lt_lt, le_le}

-- nothing after it changes nothing
pub later_none_right : (u : Option Rebuilt) → later u none ≡ u
later_none_right none = refl
later_none_right (some x) = refl

-- the latest of three, whichever two are taken first
pub later_assoc : (u v w : Option Rebuilt) → later (later u v) w ≡ later u (later v w)
later_assoc none v w = refl
later_assoc (some x) none w = refl
later_assoc (some x) (some y) none = later_none_right (later (some x) (some y))
later_assoc (some x) (some y) (some z) = go (below x.stamp y.stamp) refl (below y.stamp z.stamp) refl
  where
    go : (b : Bool) → below x.stamp y.stamp ≡ b → (d : Bool) → below y.stamp z.stamp ≡ d
        → later (cond b (some y) (some x)) (some z) ≡ later (some x) (cond d (some z) (some y))
    go true p true q = rw (q, lt_lt x.stamp y.stamp z.stamp p q)
    go true p false q = rw (q, p)
    go false p true q = refl
    go false p false q = rw (p, le_le z.stamp y.stamp x.stamp q p)

-- the highest readable stamp of two lists
pub highest_append : (m : Meaning) (Q : ℕ → Bool) (a : ℕ → Node) (F : Stamp) (xs ys : List Stamp)
    → highest m Q a F (xs ++ ys) ≡ later (highest m Q a F xs) (highest m Q a F ys)
unfolding highest
highest_append m Q a F [] ys = refl
highest_append m Q a F (s ∷ xs) ys =
    let u = cond (below s F) none (under s (record_under m Q a s)) in
    ap (later u) (highest_append m Q a F xs ys) ∙ sym (later_assoc u (highest m Q a F xs) (highest m Q a F ys))

-- the highest count in two lists
pub list_count_append : (n : ℕ) (xs ys : List Stamp) → list_count n (xs ++ ys) ≡ list_count (list_count n xs) ys
unfolding list_count
list_count_append n [] ys = refl
list_count_append n (s ∷ xs) ys = list_count_append (max n s.count) xs ys

-- the highest count in a list does not hang on where the search began
pub list_count_max : (n : ℕ) (ss : List Stamp) → list_count n ss ≡ max n (list_count 0 ss)
unfolding list_count
list_count_max n [] = omega arith
list_count_max n (s ∷ ss) =
    let h = list_count_max (max n s.count) ss in
    let k = list_count_max (max 0 s.count) ss in
    omega arith
