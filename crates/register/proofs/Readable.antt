-- What is readable, and what it is.
use Rattle.std.proofs.Common.{◌≡◌, ℕ, zero, suc, ◌+◌, ◌-◌, ◌<◌, ◌≤◌, Bool, true, false, cond, ◌&&◌, ◌||◌, T, leb, ◌⊎◌, List, [], ◌∷◌, ◌++◌, map, length, take, Some as some, None as none, Option, sym, refl, ap, ◌∙◌, subst, ap₂, inl, inr, arith, length-take}
use Rattle.std.proofs.lemmas.List.{length-map}
use Rattle.std.proofs.lemmas.Bool.{leb-true, cases_eq, cases_lt, lt-ltb, and_parts, le-leb, cases_Bool}
use Rattle.std.proofs.lemmas.Bool.Decides.{nat_tests}
use Rattle.code.specs.Bytes as code
use Rattle.code.specs.Meaning.{Meaning, Lawful, Chosen, all_below, rising_from, rising}
use Rattle.code.proofs.Laws.{rebuilds}
use Rattle.record.specs.Layout.{is_record}
use Rattle.register.specs.Tables.{bit, tally}
use Rattle.register.specs.Stamps.{Stamp, below, same_stamp, higher, lowest, NoLater}
use Rattle.register.specs.Nodes.{Bytes, Item, Spare, free, one_piece, one_record, Node}
use Rattle.register.specs.Reading.{or_else, given, only_if, if_record, Numbered, numbers, contents, joined, with_piece, shelf_piece, spare_piece, spare_record, node_piece, pieces, whole, shelf_stamps, spare_stamps, node_stamps, stamps, top_floor, record_under, Rebuilt, later, under, highest, rebuild}
use Rattle.register.specs.Promises.{WholeRecords}
use Rattle.register.proofs.Order.{not_below, le_le, lt_to_le, le_itself, same_is, same_itself}
use Rattle.register.proofs.Counting.{meet, one, either}
use Rattle.register.proofs.NodeLaws.{has, record_from, keeps}

-- nothing is not something
pub none_some : {A : Type 0} {B : Type 0} {x : A} → none ≡ some x → B
none_some h = absurd (let z : ◌≡◌ {A = ℕ} 0 1 = cc in omega arith)

-- what is there is something
pub some_of : {A : Type 0} (o : Option A) → has o ≡ true → (x : A) × (o ≡ some x)
some_of none e = absurd (let z : ◌≡◌ {A = ℕ} 0 1 = cc in omega arith)
some_of (some x) e = (x, refl)

-- ---- the pieces under t

-- numbers from lo on, rising, below hi
abbrev pub Rising : ℕ → ℕ → List Numbered → Type 0
Rising lo hi [] = Unit {0}
Rising lo hi (p ∷ ps) = (lo ≤ p.number) × (p.number < hi) × Rising (suc p.number) hi ps

-- each piece is that of the record r
abbrev pub Of : (ℕ → Bytes) → List Numbered → Type 0
Of piece [] = Unit {0}
Of piece (p ∷ ps) = (p.bytes ≡ piece p.number) × Of piece ps

below_numbers : (lo hi : ℕ) (ps : List Numbered) → Rising lo hi ps → T (all_below hi (numbers ps))
below_numbers lo hi [] r = tt
below_numbers lo hi (p ∷ ps) r = rw (lt-ltb p.number hi r.1) (below_numbers (suc p.number) hi ps r.2)

rise_from : (m lo hi : ℕ) (ps : List Numbered) → m < lo → Rising lo hi ps → T (rising_from m (numbers ps))
rise_from m lo hi [] l r = tt
rise_from m lo hi (p ∷ ps) l r = rw (lt-ltb m p.number (omega arith)) (rise_from p.number (suc p.number) hi ps (omega arith) r.2)

rise_numbers : (lo hi : ℕ) (ps : List Numbered) → Rising lo hi ps → T (rising (numbers ps))
rise_numbers lo hi [] r = tt
rise_numbers lo hi (p ∷ ps) r = rise_from p.number (suc p.number) hi ps (omega arith) r.2

contents_of : (g : ℕ → Bytes) (ps : List Numbered) → Of g ps → contents ps ≡ map g (numbers ps)
contents_of g [] o = refl
contents_of g (p ∷ ps) o = ap₂ ◌∷◌ o.0 (contents_of g ps o.1)

pub chosen : (k n : ℕ) (ps : List Numbered) → length ps ≡ k → Rising 0 n ps → Chosen k n (numbers ps)
chosen k n ps e r = record { count = length-map ps (λ p. p.number) ∙ e; below = below_numbers 0 n ps r; rise = rise_numbers 0 n ps r }

rising_lower : (lo lo' hi : ℕ) (ps : List Numbered) → lo ≤ lo' → Rising lo' hi ps → Rising lo hi ps
rising_lower lo lo' hi [] h r = tt
rising_lower lo lo' hi (p ∷ ps) h r = (omega arith, r.1, r.2)

pub take_rising : (k lo hi : ℕ) (ps : List Numbered) → Rising lo hi ps → Rising lo hi (take k ps)
take_rising zero lo hi ps r = tt
take_rising (suc k) lo hi [] r = tt
take_rising (suc k) lo hi (p ∷ ps) r = (r.0, r.1, take_rising k (suc p.number) hi ps r.2)

take_of : (g : ℕ → Bytes) (k : ℕ) (ps : List Numbered) → Of g ps → Of g (take k ps)
take_of g zero ps r = tt
take_of g (suc k) [] r = tt
take_of g (suc k) (p ∷ ps) r = (r.0, take_of g k ps r.1)

pub pieces_rising : (Q : ℕ → Bool) (a : ℕ → Node) (t : Stamp) (i l hi : ℕ) → i + l ≤ hi → Rising i hi (pieces Q a t i l)
unfolding pieces
pieces_rising Q a t i zero hi h = tt
pieces_rising Q a t i (suc l) hi h = go (only_if (Q i) (node_piece t (a i))) (pieces_rising Q a t (suc i) l hi (omega arith))
  where
    go : (o : Option Bytes) → Rising (suc i) hi (pieces Q a t (suc i) l) → Rising i hi (with_piece i o (pieces Q a t (suc i) l))
    go none r = rising_lower i (suc i) hi (pieces Q a t (suc i) l) (omega arith) r
    go (some b) r = (omega arith, omega arith, r)

pub pieces_length : (Q : ℕ → Bool) (a : ℕ → Node) (t : Stamp) (i l : ℕ) → length (pieces Q a t i l) ≡ tally (λ j. Q j && has (node_piece t (a j))) i l
unfolding pieces tally
pieces_length Q a t i zero = refl
pieces_length Q a t i (suc l) = go (Q i) (node_piece t (a i)) (pieces_length Q a t (suc i) l)
  where
    go : (b : Bool) (o : Option Bytes) → length (pieces Q a t (suc i) l) ≡ tally (λ j. Q j && has (node_piece t (a j))) (suc i) l
        → length (with_piece i (only_if b o) (pieces Q a t (suc i) l)) ≡ bit (b && has o) + tally (λ j. Q j && has (node_piece t (a j))) (suc i) l
    go true none e = omega arith
    go true (some x) e = omega arith
    go false o e = omega arith

-- what node j holds under t is of the record r
pub record Under (C : Meaning) (r : Bytes) (t : Stamp) (j : ℕ) (a : Node) : Type 0 where
  pub of_piece : (b : Bytes) → node_piece t a ≡ some b → b ≡ C.piece r j
  pub of_whole : (b : Bytes) → spare_record t a.spare ≡ some b → b ≡ r

from_either : {A : Type 0} (b : Bool) (o rest : Option A) (x : A) → or_else (only_if b o) rest ≡ some x → ((b ≡ true) × (o ≡ some x)) ⊎ (rest ≡ some x)
from_either true (some y) rest x e = inl (refl, e)
from_either true none rest x e = inr e
from_either false o rest x e = inr e

-- what holds of every whole record under t at those nodes holds of the one found
whole_has : (P : Bytes → Type 0) (Q : ℕ → Bool) (a : ℕ → Node) (t : Stamp) (i l : ℕ)
    → ((j : ℕ) → i ≤ j → j < i + l → Q j ≡ true → (b : Bytes) → spare_record t (a j).spare ≡ some b → P b)
    → (b : Bytes) → whole Q a t i l ≡ some b → P b
unfolding whole
whole_has P Q a t i zero h b e = none_some e
whole_has P Q a t i (suc l) h b e =
    elim (from_either (Q i) (spare_record t (a i).spare) (whole Q a t (suc i) l) b e) [
      | inl x ↦ h i (omega arith) (omega arith) x.0 b x.1
      | inr x ↦ whole_has P Q a t (suc i) l (λ j x y. h j (omega arith) (omega arith)) b x
    ]

-- what passes as a record was there before the test
record_there : (o : Option Bytes) (b : Bytes) → if_record o ≡ some b → o ≡ some b
record_there none b e = none_some e
record_there (some r) b e = go (is_record r) e
  where
    go : (v : Bool) → given v r ≡ some b → some r ≡ some b
    go true e = e
    go false e = none_some e

-- bytes that are there pass if a record lies in them
there_record : (o : Option Bytes) (b : Bytes) → o ≡ some b → is_record b ≡ true → has (if_record o) ≡ true
there_record o b e v = rw (e, v)

-- what lies under t, whole or joined from pieces
abbrev lies_under : Meaning → (ℕ → Bool) → (ℕ → Node) → Stamp → Option Bytes
lies_under C Q a t = or_else (whole Q a t 0 C.n) (given (leb C.k (length (pieces Q a t 0 C.n))) (joined C (pieces Q a t 0 C.n)))

module _ (C : Meaning) (Q : ℕ → Bool) (a : ℕ → Node) (r : Bytes) (t : Stamp) where
  pieces_of : (i l : ℕ) → ((j : ℕ) → i ≤ j → j < i + l → Q j ≡ true → Under C r t j (a j)) → Of (C.piece r) (pieces Q a t i l)
  unfolding pieces
  pieces_of i zero h = tt
  pieces_of i (suc l) h =
      go (Q i) refl (node_piece t (a i)) refl (h i (omega arith) (omega arith)) (pieces_of (suc i) l (λ j x y. h j (omega arith) (omega arith)))
    where
      go : (b : Bool) → Q i ≡ b → (o : Option Bytes) → node_piece t (a i) ≡ o → (Q i ≡ true → Under C r t i (a i)) → Of (C.piece r) (pieces Q a t (suc i) l)
          → Of (C.piece r) (with_piece i (only_if b o) (pieces Q a t (suc i) l))
      go true q none p u x = x
      go true q (some y) p u x = ((u q).of_piece y p, x)
      go false q o p u x = x

  module _ (L : Lawful C) (all : (j : ℕ) → j < C.n → Q j ≡ true → Under C r t j (a j)) (long : code.Bytes 24 r) where
    -- what k pieces join to is r
    pub joins : C.k ≤ length (pieces Q a t 0 C.n) → joined C (pieces Q a t 0 C.n) ≡ r
    joins h =
        let ps = take C.k (pieces Q a t 0 C.n) in
        let c = contents_of (C.piece r) ps (take_of (C.piece r) C.k (pieces Q a t 0 C.n) (pieces_of 0 C.n (λ j x y. all j (omega arith)))) in
        let o = chosen C.k C.n ps (simp length-take (omega arith)) (take_rising C.k 0 C.n (pieces Q a t 0 C.n) (pieces_rising Q a t 0 C.n C.n (omega arith))) in
        ap (C.join (numbers ps)) c ∙ rebuilds C L r (numbers ps) long o

    -- what lies under t is r
    lies_is : (b : Bytes) → lies_under C Q a t ≡ some b → b ≡ r
    lies_is b e = go (whole Q a t 0 C.n) refl (leb C.k (length (pieces Q a t 0 C.n))) refl e
      where
        go : (o : Option Bytes) → whole Q a t 0 C.n ≡ o → (l : Bool) → leb C.k (length (pieces Q a t 0 C.n)) ≡ l
            → or_else o (given l (joined C (pieces Q a t 0 C.n))) ≡ some b → b ≡ r
        go (some x) q l m e = whole_has (λ y. y ≡ r) Q a t 0 C.n (λ j x y q. (all j (omega arith) q).of_whole) b (q ∙ e)
        go none q true m e = let z : joined C (pieces Q a t 0 C.n) ≡ b = cc in sym z ∙ joins (leb-true _ _ m)
        go none q false m e = cc

    -- what is rebuilt under t is r
    pub record_is : (b : Bytes) → record_under C Q a t ≡ some b → b ≡ r
    unfolding record_under
    record_is b e = lies_is b (record_there (lies_under C Q a t) b e)

    -- with k pieces something is rebuilt
    pub record_some : is_record r ≡ true → C.k ≤ length (pieces Q a t 0 C.n) → has (record_under C Q a t) ≡ true
    unfolding record_under
    record_some v h =
        let x = some_of (lies_under C Q a t) (there (whole Q a t 0 C.n) (leb C.k (length (pieces Q a t 0 C.n))) (le-leb _ _ h)) in
        there_record (lies_under C Q a t) x.0 x.1 (ap is_record (lies_is x.0 x.1) ∙ v)
      where
        there : (o : Option Bytes) (l : Bool) → l ≡ true → has (or_else o (given l (joined C (pieces Q a t 0 C.n)))) ≡ true
        there o l h = grind arith

-- ---- a whole record is rebuilt as it is

whole_some : (Q : ℕ → Bool) (a : ℕ → Node) (t : Stamp) (i l j : ℕ) → i ≤ j → j < i + l → Q j ≡ true → has (spare_record t (a j).spare) ≡ true → has (whole Q a t i l) ≡ true
unfolding whole
whole_some Q a t i zero j h₁ h₂ q w = absurd (omega arith)
whole_some Q a t i (suc l) j h₁ h₂ q w =
    elim (cases_eq i j) [
      | inl e ↦ here (Q i) (spare_record t (a i).spare) (whole Q a t (suc i) l) (rw e q) (rw e w)
      | inr n ↦ there (only_if (Q i) (spare_record t (a i).spare)) (whole Q a t (suc i) l) (whole_some Q a t (suc i) l j (omega arith) (omega arith) q w)
    ]
  where
    here : (b : Bool) (o r : Option Bytes) → b ≡ true → has o ≡ true → has (or_else (only_if b o) r) ≡ true
    here b o r h k = grind arith

    there : (o r : Option Bytes) → has r ≡ true → has (or_else o r) ≡ true
    there o r h = grind arith

-- a whole record that is found is rebuilt
pub whole_record : (C : Meaning) (Q : ℕ → Bool) (a : ℕ → Node) (t : Stamp) → WholeRecords C Q a → has (whole Q a t 0 C.n) ≡ true → has (record_under C Q a t) ≡ true
unfolding record_under
whole_record C Q a t good h =
    let x = some_of (whole Q a t 0 C.n) h in
    let v = whole_has (λ b. is_record b ≡ true) Q a t 0 C.n (λ j u v q. good j (omega arith) q t) x.0 x.1 in
    there_record (lies_under C Q a t) x.0 (ap (λ o. or_else o (given (leb C.k (length (pieces Q a t 0 C.n))) (joined C (pieces Q a t 0 C.n)))) x.1) v

-- ---- the highest readable stamp

later_is : (u v : Option Rebuilt) (x : Rebuilt) → later u v ≡ some x → (u ≡ some x) ⊎ (v ≡ some x)
later_is none v x e = inr e
later_is (some y) none x e = inl e
later_is (some y) (some z) x e = go (below y.stamp z.stamp) e
  where
    go : (b : Bool) → cond b (some z) (some y) ≡ some x → (some y ≡ some x) ⊎ (some z ≡ some x)
    go true e = inr e
    go false e = inl e

-- t is in a list of stamps
unfoldable pub listed : Stamp → List Stamp → Bool
listed t [] = false
listed t (s ∷ ss) = same_stamp s t || listed t ss

-- P holds of every stamp in a list
abbrev pub Every : (Stamp → Type 0) → List Stamp → Type 0
Every P [] = Unit {0}
Every P (s ∷ ss) = P s × Every P ss

one_of : (x y : Rebuilt) (b : Bool) → has (cond b (some y) (some x)) ≡ true
one_of x y true = refl
one_of x y false = refl

later_left : (u v : Option Rebuilt) → has u ≡ true → has (later u v) ≡ true
later_left (some x) none h = refl
later_left (some x) (some y) h = one_of x y (below x.stamp y.stamp)
later_left none v h = absurd (let z : ◌≡◌ {A = ℕ} 0 1 = cc in omega arith)

later_right : (u v : Option Rebuilt) → has v ≡ true → has (later u v) ≡ true
later_right none v h = h
later_right (some x) (some y) h = one_of x y (below x.stamp y.stamp)
later_right (some x) none h = absurd (let z : ◌≡◌ {A = ℕ} 0 1 = cc in omega arith)

under_some : (s : Stamp) (o : Option Bytes) → has o ≡ true → has (under s o) ≡ true
under_some s (some r) h = refl
under_some s none h = h

module _ (C : Meaning) (Q : ℕ → Bool) (a : ℕ → Node) (F : Stamp) where
  pub best_some : (t : Stamp) (ss : List Stamp) → listed t ss ≡ true → NoLater F t → has (record_under C Q a t) ≡ true → has (highest C Q a F ss) ≡ true
  unfolding highest listed
  best_some t [] e h r = grind arith
  best_some t (s ∷ ss) e h r = go (same_stamp s t) refl e (λ x. best_some t ss x h r)
    where
      go : (b : Bool) → same_stamp s t ≡ b → b || listed t ss ≡ true → (listed t ss ≡ true → has (highest C Q a F ss) ≡ true)
          → has (later (cond (below s F) none (under s (record_under C Q a s))) (highest C Q a F ss)) ≡ true
      go true q x ih = let z = same_is s t q in later_left (cond (below s F) none (under s (record_under C Q a s))) (highest C Q a F ss) (rw (z, h) (under_some t (record_under C Q a t) r))
      go false q x ih = later_right (cond (below s F) none (under s (record_under C Q a s))) (highest C Q a F ss) (ih x)

  -- what the highest readable stamp gives
  pub record Best (P : Stamp → Type 0) (x : Rebuilt) : Type 0 where
    pub above : NoLater F x.stamp
    pub is : record_under C Q a x.stamp ≡ some x.bytes
    pub good : P x.stamp

  pub best_is : (P : Stamp → Type 0) (ss : List Stamp) → Every P ss → (x : Rebuilt) → highest C Q a F ss ≡ some x → Best P x
  unfolding highest
  best_is P [] e x h = none_some h
  best_is P (s ∷ ss) e x h =
      elim (later_is (cond (below s F) none (under s (record_under C Q a s))) (highest C Q a F ss) x h) [
        | inl y ↦ here (below s F) refl (record_under C Q a s) refl y
        | inr y ↦ best_is P ss e.1 x y
      ]
    where
      here : (b : Bool) → below s F ≡ b → (o : Option Bytes) → record_under C Q a s ≡ o → cond b none (under s o) ≡ some x → Best P x
      here false l none q y = none_some y
      here false l (some r) q y =
          let z : record { stamp = s; bytes = r } ≡ x = cc in
          subst (Best P) z (record { above = l; is = q; good = e.0 })
      here true l o q y = none_some y

-- ---- the highest floor

higher_left : (s t : Stamp) → NoLater s (higher s t)
higher_left s t = go (below s t) refl
  where
    go : (b : Bool) → below s t ≡ b → NoLater s (cond b t s)
    go true e = lt_to_le s t e
    go false e = le_itself s

higher_right : (s t : Stamp) → NoLater t (higher s t)
higher_right s t = go (below s t) refl
  where
    go : (b : Bool) → below s t ≡ b → NoLater t (cond b t s)
    go true e = le_itself t
    go false e = e

higher_over : (b : Bool) (s t : Stamp) → NoLater s (cond b (higher s t) s)
higher_over true s t = higher_left s t
higher_over false s t = le_itself s

top_above : (Q : ℕ → Bool) (a : ℕ → Node) (s : Stamp) (i l : ℕ) → NoLater s (top_floor Q a s i l)
unfolding top_floor
top_above Q a s i zero = le_itself s
top_above Q a s i (suc l) =
    let ih = top_above Q a (cond (Q i) (higher s (a i).floor) s) (suc i) l in
    le_le s (cond (Q i) (higher s (a i).floor) s) _ (higher_over (Q i) s (a i).floor) ih

pub top_over : (Q : ℕ → Bool) (a : ℕ → Node) (s : Stamp) (i l j : ℕ) → i ≤ j → j < i + l → Q j ≡ true → NoLater (a j).floor (top_floor Q a s i l)
unfolding top_floor
top_over Q a s i zero j h₁ h₂ q = absurd (omega arith)
top_over Q a s i (suc l) j h₁ h₂ q =
    elim (cases_eq i j) [
      | inl e ↦
          let ih = top_above Q a (cond (Q i) (higher s (a i).floor) s) (suc i) l in
          let z : NoLater (a i).floor (cond (Q i) (higher s (a i).floor) s) = rw (rw (← e) at q) (higher_right s (a i).floor) in
          rw (← e) (le_le (a i).floor (cond (Q i) (higher s (a i).floor) s) (top_floor Q a (cond (Q i) (higher s (a i).floor) s) (suc i) l) z ih)
      | inr n ↦ top_over Q a (cond (Q i) (higher s (a i).floor) s) (suc i) l j (omega arith) (omega arith) q
    ]

-- it is s, or a floor of Q
pub top_is : (P : Stamp → Type 0) (Q : ℕ → Bool) (a : ℕ → Node) (s : Stamp) (i l : ℕ) → P s → ((j : ℕ) → i ≤ j → j < i + l → Q j ≡ true → P (a j).floor) → P (top_floor Q a s i l)
unfolding top_floor
top_is P Q a s i zero h f = h
top_is P Q a s i (suc l) h f =
    top_is P Q a (cond (Q i) (higher s (a i).floor) s) (suc i) l
    (go (Q i) (below s (a i).floor) (f i (omega arith) (omega arith))) (λ j x y. f j (omega arith) (omega arith))
  where
    go : (b t : Bool) → (b ≡ true → P (a i).floor) → P (cond b (cond t (a i).floor s) s)
    go true true g = g refl
    go true false g = h
    go false t g = h

-- ---- something is readable

listed_left : (t : Stamp) (xs ys : List Stamp) → listed t xs ≡ true → listed t (xs ++ ys) ≡ true
unfolding listed
listed_left t [] ys h = grind arith
listed_left t (x ∷ xs) ys h = let ih : listed t xs ≡ true → listed t (xs ++ ys) ≡ true = listed_left t xs ys in grind arith

listed_right : (t : Stamp) (xs ys : List Stamp) → listed t ys ≡ true → listed t (xs ++ ys) ≡ true
unfolding listed
listed_right t [] ys h = h
listed_right t (x ∷ xs) ys h = let ih = listed_right t xs ys h in grind arith

listed_shelf : (t : Stamp) (hs : List Item) → has (shelf_piece t hs) ≡ true → listed t (shelf_stamps hs) ≡ true
unfolding listed shelf_piece shelf_stamps
listed_shelf t [] h = grind arith
listed_shelf t (x ∷ xs) h = let ih : has (shelf_piece t xs) ≡ true → listed t (shelf_stamps xs) ≡ true = listed_shelf t xs in grind arith

listed_spare : (t : Stamp) (x : Spare) → has (or_else (spare_piece t x) (spare_record t x)) ≡ true → listed t (spare_stamps x) ≡ true
unfolding listed spare_piece spare_record spare_stamps
listed_spare t free h = grind arith
listed_spare t (one_piece s b) h = grind arith
listed_spare t (one_record s b) h = grind arith

listed_piece : (t : Stamp) (a : Node) → has (node_piece t a) ≡ true → listed t (node_stamps a) ≡ true
unfolding node_piece node_stamps
listed_piece t a h =
    elim (cases_Bool (has (shelf_piece t a.shelf))) [
      | inl e ↦ listed_left t (shelf_stamps a.shelf) (spare_stamps a.spare) (listed_shelf t a.shelf e)
      | inr e ↦ listed_right t (shelf_stamps a.shelf) (spare_stamps a.spare) (listed_spare t a.spare (grind arith))
    ]

listed_whole : (t : Stamp) (a : Node) → has (spare_record t a.spare) ≡ true → listed t (node_stamps a) ≡ true
unfolding node_stamps
listed_whole t a h = listed_right t (shelf_stamps a.shelf) (spare_stamps a.spare) (listed_spare t a.spare (grind arith))

listed_in : (Q : ℕ → Bool) (a : ℕ → Node) (t : Stamp) (i l j : ℕ) → i ≤ j → j < i + l → Q j ≡ true → listed t (node_stamps (a j)) ≡ true → listed t (stamps Q a i l) ≡ true
unfolding stamps
listed_in Q a t i zero j h₁ h₂ q w = absurd (omega arith)
listed_in Q a t i (suc l) j h₁ h₂ q w =
    elim (cases_eq i j) [
      | inl e ↦ rw (rw (← e) at q) (listed_left t (node_stamps (a i)) (stamps Q a (suc i) l) (rw (← e) at w))
      | inr n ↦ there (Q i) (listed_in Q a t (suc i) l j (omega arith) (omega arith) q w)
    ]
  where
    there : (b : Bool) → listed t (stamps Q a (suc i) l) ≡ true → listed t (cond b (node_stamps (a i) ++ stamps Q a (suc i) l) (stamps Q a (suc i) l)) ≡ true
    there true e = listed_right t (node_stamps (a i)) (stamps Q a (suc i) l) e
    there false e = e

whole_at : (t : Stamp) (x : Spare) → record_from t x ≡ true → (u : Stamp) × (NoLater t u) × (has (spare_record u x) ≡ true)
unfolding record_from spare_record
whole_at t free h = absurd (let z : ◌≡◌ {A = ℕ} 0 1 = cc in omega arith)
whole_at t (one_piece s b) h = absurd (let z : ◌≡◌ {A = ℕ} 0 1 = cc in omega arith)
whole_at t (one_record s b) h = (s, not_below t s h, rw (same_itself s))

-- a node whose floor is not above t keeps it by a piece or by a whole record
splits : (q : Bool) (t : Stamp) (a : Node) → (q ≡ true → NoLater a.floor t) → bit (q && keeps t a) ≤ bit (q && has (node_piece t a)) + bit (q && record_from t a.spare)
unfolding keeps
splits q t a h = grind (arith, nat_tests)

module _ (C : Meaning) (L : Lawful C) (Q : ℕ → Bool) (a : ℕ → Node) (r : Bytes) where
  pub readable : C.n - C.f ≤ tally Q 0 C.n → C.n - C.f ≤ tally (λ j. keeps (top_floor Q a lowest 0 C.n) (a j)) 0 C.n
      → ((j : ℕ) → j < C.n → Q j ≡ true → Under C r (top_floor Q a lowest 0 C.n) j (a j)) → WholeRecords C Q a → code.Bytes 24 r → is_record r ≡ true
      → has (rebuild C Q a) ≡ true
  unfolding rebuild
  readable quorum closed all wholes long good =
      let t = top_floor Q a lowest 0 C.n in
      elim (cases_lt 0 (tally (λ j. Q j && record_from t (a j).spare) 0 C.n)) [
        | inl h ↦
            let j = one (λ j. Q j && record_from t (a j).spare) 0 C.n h in
            let b = and_parts _ _ j.3 in
            let u = whole_at t (a j.0).spare b.1 in
            best_some C Q a t u.0 (stamps Q a 0 C.n) (listed_in Q a u.0 0 C.n j.0 j.1 j.2 b.0 (listed_whole u.0 (a j.0) u.2)) u.1
            (whole_record C Q a u.0 wholes (whole_some Q a u.0 0 C.n j.0 j.1 j.2 b.0 u.2))
        | inr h ↦
            let m = meet Q (λ j. keeps t (a j)) 0 C.n in
            let e = either (λ j. Q j && keeps t (a j)) (λ j. Q j && has (node_piece t (a j))) (λ j. Q j && record_from t (a j).spare) 0 C.n
            (λ j x y. splits (Q j) t (a j) (top_over Q a lowest 0 C.n j x y)) in
            let l = pieces_length Q a t 0 C.n in
            let k : C.k ≤ length (pieces Q a t 0 C.n) = omega arith in
            let j = one (λ j. Q j && has (node_piece t (a j))) 0 C.n (omega arith) in
            let b = and_parts _ _ j.3 in
            best_some C Q a t t (stamps Q a 0 C.n) (listed_in Q a t 0 C.n j.0 j.1 j.2 b.0 (listed_piece t (a j.0) b.1)) (le_itself t)
            (record_some C Q a r t L all long good k)
      ]
