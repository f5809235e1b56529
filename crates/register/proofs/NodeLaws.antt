-- What a node keeps of a write, and that no request makes it keep less.
use Rattle.std.proofs.Common.{◌≡◌, ℕ, Bool, true, false, cond, ◌||◌, ltb, ◌⊎◌, List, [], ◌∷◌, ◌++◌, length, Some as some, None as none, Option, refl, ap, ◌∙◌, inl, inr, arith}
use Rattle.std.proofs.lemmas.Bool.{cases_Bool}
use Rattle.std.proofs.lemmas.Bool.Decides.{nat_tests}
use Rattle.code.specs.Meaning.{Meaning}
use Rattle.register.specs.Stamps.{Stamp, below, same_stamp, Earlier, NoLater}
use Rattle.register.specs.Nodes.{Bytes, Item, Spare, free, one_piece, one_record, Node, cleared, cut, raise, replace, put, store}
use Rattle.register.specs.Reading.{or_else, given, shelf_piece, spare_piece, node_piece}
use Rattle.register.proofs.Order.{reaches, lt_le, lt_to_le, le_itself, both, not_same, same_itself}

-- something is there
abbrev pub has : {A : Type 0} → Option A → Bool
has none = false
has (some a) = true

-- a spare holds a whole record under t or above
unfoldable pub record_from : Stamp → Spare → Bool
record_from t free = false
record_from t (one_piece s b) = false
record_from t (one_record s r) = reaches t s

-- a node keeps the write with the stamp t: its floor is above t, or it has a piece under t, or a whole record under t or above
unfoldable pub keeps : Stamp → Node → Bool
keeps t a = below t a.floor || (has (node_piece t a) || record_from t a.spare)

-- a piece in a spare stands at F or below
unfoldable pub spare_low : Stamp → Spare → Bool
spare_low F free = true
spare_low F (one_piece s b) = reaches s F
spare_low F (one_record s r) = true

-- a piece in the spare of a node stands at its floor or below
abbrev pub Low : Node → Type 0
Low a = spare_low a.floor a.spare ≡ true

-- ---- shelves

-- what stands at F or above stays
cleared_on : (F t : Stamp) → NoLater F t → (xs : List Item) → shelf_piece t (cleared F xs) ≡ shelf_piece t xs
unfolding cleared shelf_piece
cleared_on F t h [] = refl
cleared_on F t h (x ∷ xs) = go (below x.stamp F) refl (cleared_on F t h xs)
  where
    go : (b : Bool) → below x.stamp F ≡ b → shelf_piece t (cleared F xs) ≡ shelf_piece t xs
        → shelf_piece t (cond b (cleared F xs) (x ∷ cleared F xs)) ≡ or_else (given (same_stamp x.stamp t) x.bytes) (shelf_piece t xs)
    go true e ih = rw (not_same _ _ (lt_le _ _ _ e h)) ih
    go false e ih = rw ih

-- one more on the shelf
shelf_push : (t : Stamp) (xs : List Item) (x : Item) → has (shelf_piece t xs) ≡ true → has (shelf_piece t (xs ++ (x ∷ []))) ≡ true
unfolding shelf_piece
shelf_push t [] x h = grind arith
shelf_push t (y ∷ ys) x h = go (same_stamp y.stamp t) h (shelf_push t ys x)
  where
    go : (b : Bool) → has (or_else (given b y.bytes) (shelf_piece t ys)) ≡ true → (has (shelf_piece t ys) ≡ true → has (shelf_piece t (ys ++ (x ∷ []))) ≡ true)
        → has (or_else (given b y.bytes) (shelf_piece t (ys ++ (x ∷ [])))) ≡ true
    go true e ih = refl
    go false e ih = ih e

shelf_new : (xs : List Item) (x : Item) → has (shelf_piece x.stamp (xs ++ (x ∷ []))) ≡ true
unfolding shelf_piece
shelf_new [] x = rw (same_itself x.stamp)
shelf_new (y ∷ ys) x = go (same_stamp y.stamp x.stamp) (shelf_new ys x)
  where
    go : (b : Bool) → has (shelf_piece x.stamp (ys ++ (x ∷ []))) ≡ true → has (or_else (given b y.bytes) (shelf_piece x.stamp (ys ++ (x ∷ [])))) ≡ true
    go true e = refl
    go false e = e

-- ---- spares

-- a spare has a piece under t, or a whole record under t or above
abbrev spare_keeps : Stamp → Spare → Bool
spare_keeps t x = has (spare_piece t x) || record_from t x

cut_keeps : (m : Meaning) (i : ℕ) (F t : Stamp) → NoLater F t → (x : Spare) → spare_keeps t x ≡ true → spare_keeps t (cut m i F x) ≡ true
unfolding cut spare_piece record_from below same_stamp
cut_keeps m i F t h free k = k
cut_keeps m i F t h (one_piece s b) k = grind (arith, nat_tests)
cut_keeps m i F t h (one_record s r) k = grind (arith, nat_tests)

cut_low : (m : Meaning) (i : ℕ) (F f : Stamp) → Earlier f F → (x : Spare) → spare_low f x ≡ true → spare_low F (cut m i F x) ≡ true
unfolding cut spare_low below same_stamp
cut_low m i F f h free k = k
cut_low m i F f h (one_piece s b) k = grind (arith, nat_tests)
cut_low m i F f h (one_record s r) k = grind (arith, nat_tests)

replace_keeps : (s t : Stamp) (r : Bytes) (x : Spare) → spare_keeps t x ≡ true → spare_keeps t (replace s r x) ≡ true
unfolding replace spare_piece record_from below same_stamp
replace_keeps s t r free k = grind arith
replace_keeps s t r (one_piece u b) k = grind (arith, nat_tests)
replace_keeps s t r (one_record u b) k = grind (arith, nat_tests)

replace_low : (F s : Stamp) (r : Bytes) (x : Spare) → spare_low F x ≡ true → spare_low F (replace s r x) ≡ true
unfolding replace spare_low
replace_low F s r free k = refl
replace_low F s r (one_piece u b) k = grind arith
replace_low F s r (one_record u b) k = grind arith

replace_new : (F s : Stamp) (r : Bytes) (x : Spare) → Earlier F s → spare_low F x ≡ true → record_from s (replace s r x) ≡ true
unfolding replace spare_low record_from below
replace_new F s r free h k = grind (arith, nat_tests)
replace_new F s r (one_piece u b) h k = grind (arith, nat_tests)
replace_new F s r (one_record u b) h k = grind (arith, nat_tests)

-- ---- nodes

-- by which of the three ways a node keeps a write
pub keeps_floor : (t : Stamp) (a : Node) → Earlier t a.floor → keeps t a ≡ true
unfolding keeps
keeps_floor t a h = grind arith

pub keeps_shelf : (t : Stamp) (a : Node) → has (shelf_piece t a.shelf) ≡ true → keeps t a ≡ true
unfolding keeps node_piece
keeps_shelf t a h = grind arith

pub keeps_spare : (t : Stamp) (a : Node) → spare_keeps t a.spare ≡ true → keeps t a ≡ true
unfolding keeps node_piece
keeps_spare t a h = grind arith

keeps_how : (t : Stamp) (a : Node) → NoLater a.floor t → keeps t a ≡ true → (has (shelf_piece t a.shelf) ≡ true) ⊎ (spare_keeps t a.spare ≡ true)
unfolding keeps node_piece
keeps_how t a l h =
    elim (cases_Bool (has (shelf_piece t a.shelf))) [
      | inl e ↦ inl e
      | inr e ↦ inr (grind arith)
    ]

-- a node whose floor is raised to F, one with a record put on its shelf, and one with it put into its spare
abbrev pub raised : Meaning → ℕ → Stamp → Node → Node
raised m i F a = record { floor = F; shelf = cleared F a.shelf; spare = cut m i F a.spare }

abbrev pub on_shelf : Meaning → ℕ → Stamp → Bytes → Node → Node
on_shelf m i s r a = record { floor = a.floor; shelf = a.shelf ++ (record { stamp = s; bytes = m.piece r i } ∷ []); spare = a.spare }

abbrev pub in_spare : Stamp → Bytes → Node → Node
in_spare s r a = record { floor = a.floor; shelf = a.shelf; spare = replace s r a.spare }

module _ (m : Meaning) (i : ℕ) where
  pub raise_keeps : (F t : Stamp) (a : Node) → keeps t a ≡ true → keeps t (raise m i F a) ≡ true
  unfolding raise
  raise_keeps F t a h = go (below a.floor F) refl (below t F) refl
    where
      go : (b : Bool) → below a.floor F ≡ b → (u : Bool) → below t F ≡ u → keeps t (cond b (raised m i F a) a) ≡ true
      go true e true l = keeps_floor t (raised m i F a) l
      go true e false l =
          elim (keeps_how t a (lt_to_le a.floor t (lt_le a.floor F t e l)) h) [
            | inl o ↦ keeps_shelf t (raised m i F a) (ap has (cleared_on F t l a.shelf) ∙ o)
            | inr p ↦ keeps_spare t (raised m i F a) (cut_keeps m i F t l a.spare p)
          ]
      go false e u l = h

  pub put_keeps : (s : Stamp) (r : Bytes) (t : Stamp) (a : Node) → keeps t a ≡ true → keeps t (put m i s r a) ≡ true
  unfolding put
  put_keeps s r t a h = go (ltb (length a.shelf) m.k) (below t a.floor) refl
    where
      go : (b u : Bool) → below t a.floor ≡ u → keeps t (cond b (on_shelf m i s r a) (in_spare s r a)) ≡ true
      go true true l = keeps_floor t (on_shelf m i s r a) l
      go false true l = keeps_floor t (in_spare s r a) l
      go true false l =
          elim (keeps_how t a l h) [
            | inl o ↦ keeps_shelf t (on_shelf m i s r a) (shelf_push t a.shelf (record { stamp = s; bytes = m.piece r i }) o)
            | inr p ↦ keeps_spare t (on_shelf m i s r a) p
          ]
      go false false l =
          elim (keeps_how t a l h) [
            | inl o ↦ keeps_shelf t (in_spare s r a) o
            | inr p ↦ keeps_spare t (in_spare s r a) (replace_keeps s t r a.spare p)
          ]

  pub store_keeps : (s F : Stamp) (r : Bytes) (t : Stamp) (a : Node) → keeps t a ≡ true → keeps t (store m i s F r a) ≡ true
  unfolding store
  store_keeps s F r t a h = grind (arith, put_keeps, raise_keeps)

  pub raise_over : (F : Stamp) (a : Node) → NoLater a.floor (raise m i F a).floor
  unfolding raise
  raise_over F a = go (below a.floor F) refl
    where
      go : (b : Bool) → below a.floor F ≡ b → NoLater a.floor (cond b (raised m i F a) a).floor
      go true e = lt_to_le _ _ e
      go false e = le_itself a.floor

  pub raise_to : (F : Stamp) (a : Node) → NoLater F (raise m i F a).floor
  unfolding raise
  raise_to F a = go (below a.floor F) refl
    where
      go : (b : Bool) → below a.floor F ≡ b → NoLater F (cond b (raised m i F a) a).floor
      go true e = le_itself F
      go false e = e

  pub raise_under : (F s : Stamp) (a : Node) → Earlier F s → Earlier a.floor s → Earlier (raise m i F a).floor s
  unfolding raise
  raise_under F s a h k = grind arith

  pub put_floor : (s : Stamp) (r : Bytes) (a : Node) → (put m i s r a).floor ≡ a.floor
  unfolding put
  put_floor s r a = grind arith

  pub store_over : (s F : Stamp) (r : Bytes) (a : Node) → NoLater a.floor (store m i s F r a).floor
  unfolding store
  store_over s F r a = go (below a.floor s)
    where
      go : (b : Bool) → NoLater a.floor (cond b (put m i s r (raise m i F a)) a).floor
      go true = rw (put_floor s r (raise m i F a)) (raise_over F a)
      go false = le_itself a.floor

  pub raise_low : (F : Stamp) (a : Node) → Low a → Low (raise m i F a)
  unfolding raise
  raise_low F a h = go (below a.floor F) refl
    where
      go : (b : Bool) → below a.floor F ≡ b → Low (cond b (raised m i F a) a)
      go true e = cut_low m i F a.floor e a.spare h
      go false e = h

  pub put_low : (s : Stamp) (r : Bytes) (a : Node) → Low a → Low (put m i s r a)
  unfolding put
  put_low s r a h = let k = replace_low a.floor s r a.spare h in grind arith

  pub store_low : (s F : Stamp) (r : Bytes) (a : Node) → Low a → Low (store m i s F r a)
  unfolding store
  store_low s F r a h = let k = put_low s r (raise m i F a) (raise_low F a h) in grind arith

  pub put_new : (s : Stamp) (r : Bytes) (a : Node) → Low a → Earlier a.floor s → keeps s (put m i s r a) ≡ true
  unfolding put
  put_new s r a low h = go (ltb (length a.shelf) m.k)
    where
      go : (b : Bool) → keeps s (cond b (on_shelf m i s r a) (in_spare s r a)) ≡ true
      go true = keeps_shelf s (on_shelf m i s r a) (shelf_new a.shelf (record { stamp = s; bytes = m.piece r i }))
      go false = let k = replace_new a.floor s r a.spare h low in keeps_spare s (in_spare s r a) (grind arith)

  -- a node that takes Store s, with its floor not at s, keeps the write
  pub store_new : (s F : Stamp) (r : Bytes) (a : Node) → Low a → (a.floor ≡ s → ⊥) → Earlier F s → keeps s (store m i s F r a) ≡ true
  unfolding store
  store_new s F r a low ne h = go (below a.floor s) refl (below s a.floor) refl
    where
      go : (b : Bool) → below a.floor s ≡ b → (u : Bool) → below s a.floor ≡ u → keeps s (cond b (put m i s r (raise m i F a)) a) ≡ true
      go true e u l = put_new s r (raise m i F a) (raise_low F a low) (raise_under F s a h e)
      go false e true l = keeps_floor s a l
      go false e false l = absurd (ne (both _ _ l e))
