-- The latest record found, stamp by stamp.
use Rattle.std.proofs.Common.{◌≡◌, ℕ, suc, ◌+◌, ◌<◌, Bool, true, false, cond, List, [], ◌∷◌, ◌++◌, length, get_or, drop, Some as some, None as none, Option, sym, refl, ap, ◌∙◌, add-one, arith, drop-cons}
use Rattle.code.specs.Meaning.{Meaning}
use Rattle.register.specs.Stamps.{Stamp, below, lowest}
use Rattle.register.specs.Nodes.{Bytes, Node}
use Rattle.register.specs.Reading.{node_stamps, Rebuilt, later, under, record_under, highest}
use Rattle.register.proofs.Highest.{later_none_right, later_assoc, highest_append}
use Rattle.reads.specs.Finds.{is_later}

-- the stamps of a node that was fetched, and of one that was not
pub stamps_here : (b : Bool) (x y : Node) → cond b (some x) none ≡ some y → cond b (node_stamps x) [] ≡ node_stamps y
stamps_here true x y e = cc
stamps_here false x y e = absurd (let z : ◌≡◌ {A = ℕ} 0 1 = cc in omega arith)

pub stamps_nowhere : (b : Bool) (x : Node) → ◌≡◌ {A = Option Node} (cond b (some x) none) none → cond b (node_stamps x) [] ≡ []
stamps_nowhere true x e = absurd (let z : ◌≡◌ {A = ℕ} 0 1 = cc in omega arith)
stamps_nowhere false x e = refl

module _ (m : Meaning) (Q : ℕ → Bool) (a : ℕ → Node) (F : Stamp) where
  none_listed : highest m Q a F [] ≡ none
  unfolding highest
  none_listed = refl

  -- one stamp
  one_listed : (s : Stamp) → highest m Q a F (s ∷ []) ≡ cond (below s F) none (under s (record_under m Q a s))
  unfolding highest
  one_listed s = later_none_right (cond (below s F) none (under s (record_under m Q a s)))

  -- a stamp below the floor adds nothing
  pub offer_low : (x : Option Rebuilt) (s : Stamp) → below s F ≡ true → x ≡ later x (highest m Q a F (s ∷ []))
  offer_low x s e = sym (ap (later x) (one_listed s ∙ ap (λ b. cond b none (under s (record_under m Q a s))) e) ∙ later_none_right x)

  -- nor does one that is no later
  pub offer_early : (x : Option Rebuilt) (s : Stamp) → is_later s x ≡ false → x ≡ later x (highest m Q a F (s ∷ []))
  offer_early x s e = go x e (below s F) (record_under m Q a s) (one_listed s)
    where
      go : (x : Option Rebuilt) → is_later s x ≡ false → (b : Bool) (o : Option Bytes) → highest m Q a F (s ∷ []) ≡ cond b none (under s o)
          → x ≡ later x (highest m Q a F (s ∷ []))
      go none e b o h = absurd (let z : ◌≡◌ {A = ℕ} 0 1 = cc in omega arith)
      go (some y) e true o h = rw h refl
      go (some y) e false none h = rw h refl
      go (some y) e false (some r) h = rw (h, e) refl

  -- a later one that is not readable adds nothing
  pub offer_unread : (x : Option Rebuilt) (s : Stamp) → record_under m Q a s ≡ none → x ≡ later x (highest m Q a F (s ∷ []))
  offer_unread x s e = go (below s F) (one_listed s ∙ ap (λ o. cond (below s F) none (under s o)) e)
    where
      go : (b : Bool) → highest m Q a F (s ∷ []) ≡ cond b none none → x ≡ later x (highest m Q a F (s ∷ []))
      go true h = rw h (sym (later_none_right x))
      go false h = rw h (sym (later_none_right x))

  -- a later one that is readable takes its place
  pub offer_read : (x : Option Rebuilt) (s : Stamp) (r : Bytes) → below s F ≡ false → is_later s x ≡ true → record_under m Q a s ≡ some r
      → some (record { stamp = s; bytes = r }) ≡ later x (highest m Q a F (s ∷ []))
  offer_read x s r low e q = go x e (one_listed s ∙ ap (λ b. cond b none (under s (record_under m Q a s))) low ∙ ap (under s) q)
    where
      go : (x : Option Rebuilt) → is_later s x ≡ true → highest m Q a F (s ∷ []) ≡ some (record { stamp = s; bytes = r })
          → some (record { stamp = s; bytes = r }) ≡ later x (highest m Q a F (s ∷ []))
      go none e h = sym h
      go (some y) e h = rw (h, e) refl

  -- after some stamps the others are left
  pub left_more : (x y : Option Rebuilt) (ss rest : List Stamp) → y ≡ later x (highest m Q a F ss)
      → later x (highest m Q a F (ss ++ rest)) ≡ later y (highest m Q a F rest)
  left_more x y ss rest e =
      ap (later x) (highest_append m Q a F ss rest)
      ∙ sym (later_assoc x (highest m Q a F ss) (highest m Q a F rest)) ∙ ap (λ v. later v (highest m Q a F rest)) (sym e)

  -- with none left nothing is added
  pub left_none : (x : Option Rebuilt) (ss : List Stamp) → ss ≡ [] → later x (highest m Q a F ss) ≡ x
  left_none x ss e = ap (λ v. later x (highest m Q a F v)) e ∙ ap (later x) none_listed ∙ later_none_right x

  -- the same along one list, from its place j on
  pub along_more : (x y : Option Rebuilt) (ss : List Stamp) (j : ℕ) → j < length ss → y ≡ later x (highest m Q a F (get_or ss j lowest ∷ []))
      → later y (highest m Q a F (drop (j + 1) ss)) ≡ later x (highest m Q a F (drop j ss))
  along_more x y ss j l e =
      ap (λ v. later y (highest m Q a F (drop v ss))) (add-one j)
      ∙ sym (ap (λ v. later x (highest m Q a F v)) (drop-cons ss j lowest l) ∙ left_more x y (get_or ss j lowest ∷ []) (drop (suc j) ss) e)

-- what offering one stamp comes to
pub ruleset offers = (offer_low, offer_early, offer_unread, offer_read)
