-- Each item that a node holds is of a write.
use Rattle.std.proofs.Common.{◌≡◌, ℕ, zero, suc, ◌+◌, ◌<◌, ◌≤◌, Bool, true, false, cond, ltb, ◌⊎◌, List, [], ◌∷◌, ◌++◌, length, Some as some, None as none, Option, refl, subst, inl, inr, arith}
use Rattle.code.specs.Meaning.{Meaning}
use Rattle.register.specs.Stamps.{Stamp, below, same_stamp}
use Rattle.register.specs.Nodes.{Bytes, Item, Spare, free, one_piece, one_record, Node, cleared, cut, raise, replace, put, store}
use Rattle.register.specs.Reading.{or_else, given, shelf_piece, spare_piece, spare_record, node_piece, shelf_stamps, spare_stamps, node_stamps, stamps}
use Rattle.register.proofs.Order.{same_is}
use Rattle.register.proofs.NodeLaws.{raised, on_shelf, in_spare}
use Rattle.register.proofs.Readable.{Every, none_some}
use Rattle.register.proofs.Crowd.{every-++}

-- every piece on a shelf has PP
abbrev pub Shelf : (Stamp → Bytes → Type 0) → List Item → Type 0
Shelf PP [] = Unit {0}
Shelf PP (h ∷ hs) = PP h.stamp h.bytes × Shelf PP hs

-- so has a piece in a spare, and a whole record there has PW
abbrev pub Spared : (Stamp → Bytes → Type 0) → (Stamp → Bytes → Type 0) → Spare → Type 0
Spared PP PW free = Unit {0}
Spared PP PW (one_piece s b) = PP s b
Spared PP PW (one_record s r) = PW s r

-- all that a node holds: pieces have PP, whole records PW
pub record Items (PP PW : Stamp → Bytes → Type 0) (a : Node) : Type 0 where
  pub shelved : Shelf PP a.shelf
  pub spared : Spared PP PW a.spare

shelf_map : (P Q : Stamp → Bytes → Type 0) → ((s : Stamp) (b : Bytes) → P s b → Q s b) → (hs : List Item) → Shelf P hs → Shelf Q hs
shelf_map P Q f [] h = tt
shelf_map P Q f (x ∷ xs) h = (f x.stamp x.bytes h.0, shelf_map P Q f xs h.1)

spare_map : (P Q V W : Stamp → Bytes → Type 0) → ((s : Stamp) (b : Bytes) → P s b → Q s b) → ((s : Stamp) (b : Bytes) → V s b → W s b) → (x : Spare) → Spared P V x → Spared Q W x
spare_map P Q V W f g free h = tt
spare_map P Q V W f g (one_piece s b) h = f s b h
spare_map P Q V W f g (one_record s b) h = g s b h

pub items_map : (P Q V W : Stamp → Bytes → Type 0) → ((s : Stamp) (b : Bytes) → P s b → Q s b) → ((s : Stamp) (b : Bytes) → V s b → W s b) → (a : Node) → Items P V a → Items Q W a
items_map P Q V W f g a h = record { shelved = shelf_map P Q f a.shelf h.shelved; spared = spare_map P Q V W f g a.spare h.spared }

shelf_push : (P : Stamp → Bytes → Type 0) (hs : List Item) (x : Item) → Shelf P hs → P x.stamp x.bytes → Shelf P (hs ++ (x ∷ []))
shelf_push P [] x h p = (p, tt)
shelf_push P (y ∷ ys) x h p = (h.0, shelf_push P ys x h.1 p)

shelf_kept : (P : Stamp → Bytes → Type 0) (F : Stamp) (hs : List Item) → Shelf P hs → Shelf P (cleared F hs)
unfolding cleared
shelf_kept P F [] h = tt
shelf_kept P F (x ∷ xs) h = go (below x.stamp F) (shelf_kept P F xs h.1)
  where
    go : (b : Bool) → Shelf P (cleared F xs) → Shelf P (cond b (cleared F xs) (x ∷ cleared F xs))
    go true r = r
    go false r = (h.0, r)

module _ (C : Meaning) (i : ℕ) (PP PW : Stamp → Bytes → Type 0) (cuts : (s : Stamp) (r : Bytes) → PW s r → PP s (C.piece r i)) where
  cut_items : (F : Stamp) (x : Spare) → Spared PP PW x → Spared PP PW (cut C i F x)
  unfolding cut
  cut_items F free h = tt
  cut_items F (one_piece s b) h = go (below s F)
    where
      go : (t : Bool) → Spared PP PW (cond t free (one_piece s b))
      go true = tt
      go false = h
  cut_items F (one_record s r) h = go (below s F) (same_stamp s F)
    where
      go : (t u : Bool) → Spared PP PW (cond t free (cond u (one_piece s (C.piece r i)) (one_record s r)))
      go true u = tt
      go false true = cuts s r h
      go false false = h

  pub raise_items : (F : Stamp) (a : Node) → Items PP PW a → Items PP PW (raise C i F a)
  unfolding raise
  raise_items F a h = go (below a.floor F)
    where
      go : (t : Bool) → Items PP PW (cond t (raised C i F a) a)
      go true = record { shelved = shelf_kept PP F a.shelf h.shelved; spared = cut_items F a.spare h.spared }
      go false = h

  replaced_items : (s : Stamp) (r : Bytes) → PW s r → (x : Spare) → Spared PP PW x → Spared PP PW (replace s r x)
  unfolding replace
  replaced_items s r w free h = w
  replaced_items s r w (one_piece t b) h = go (below t s)
    where
      go : (u : Bool) → Spared PP PW (cond u (one_record s r) (one_piece t b))
      go true = w
      go false = h
  replaced_items s r w (one_record t b) h = go (below t s)
    where
      go : (u : Bool) → Spared PP PW (cond u (one_record s r) (one_record t b))
      go true = w
      go false = h

  pub store_items : (s F : Stamp) (r : Bytes) (a : Node) → PW s r → Items PP PW a → Items PP PW (store C i s F r a)
  unfolding store put
  store_items s F r a w h = go (below a.floor s) (ltb (length (raise C i F a).shelf) C.k) (raise_items F a h)
    where
      go : (t u : Bool) → Items PP PW (raise C i F a)
          → Items PP PW (cond t (cond u (on_shelf C i s r (raise C i F a)) (in_spare s r (raise C i F a))) a)
      go true true k = record { shelved = shelf_push PP (raise C i F a).shelf _ k.shelved (cuts s r w); spared = k.spared }
      go true false k = record { shelved = k.shelved; spared = replaced_items s r w (raise C i F a).spare k.spared }
      go false u k = h

-- ---- what is found under t

given_is : (P : Stamp → Bytes → Type 0) (s t : Stamp) (b x : Bytes) → P s b → given (same_stamp s t) b ≡ some x → P t x
given_is P s t b x h e = go (same_stamp s t) refl e
  where
    go : (u : Bool) → same_stamp s t ≡ u → given u b ≡ some x → P t x
    go true q e = let z : b ≡ x = cc in subst (λ v. P v x) (same_is s t q) (subst (P s) z h)
    go false q e = none_some e

or_is : {A : Type 0} (u v : Option A) (x : A) → or_else u v ≡ some x → (u ≡ some x) ⊎ (v ≡ some x)
or_is (some y) v x e = inl e
or_is none v x e = inr e

shelf_found : (P : Stamp → Bytes → Type 0) (t : Stamp) (hs : List Item) (b : Bytes) → Shelf P hs → shelf_piece t hs ≡ some b → P t b
unfolding shelf_piece
shelf_found P t [] b h e = none_some e
shelf_found P t (x ∷ xs) b h e =
    elim (or_is (given (same_stamp x.stamp t) x.bytes) (shelf_piece t xs) b e) [
      | inl y ↦ given_is P x.stamp t x.bytes b h.0 y
      | inr y ↦ shelf_found P t xs b h.1 y
    ]

part_found : (P W : Stamp → Bytes → Type 0) (t : Stamp) (x : Spare) (b : Bytes) → Spared P W x → spare_piece t x ≡ some b → P t b
unfolding spare_piece
part_found P W t free b h e = none_some e
part_found P W t (one_piece s c) b h e = given_is P s t c b h e
part_found P W t (one_record s c) b h e = none_some e

pub whole_found : (P W : Stamp → Bytes → Type 0) (t : Stamp) (x : Spare) (b : Bytes) → Spared P W x → spare_record t x ≡ some b → W t b
unfolding spare_record
whole_found P W t free b h e = none_some e
whole_found P W t (one_piece s c) b h e = none_some e
whole_found P W t (one_record s c) b h e = given_is W s t c b h e

pub piece_found : (P W : Stamp → Bytes → Type 0) (t : Stamp) (a : Node) (b : Bytes) → Items P W a → node_piece t a ≡ some b → P t b
unfolding node_piece
piece_found P W t a b h e =
    elim (or_is (shelf_piece t a.shelf) (spare_piece t a.spare) b e) [
      | inl y ↦ shelf_found P t a.shelf b h.shelved y
      | inr y ↦ part_found P W t a.spare b h.spared y
    ]

-- ---- every stamp held

module _ (PP PW : Stamp → Bytes → Type 0) (S : Stamp → Type 0) (fp : (s : Stamp) (b : Bytes) → PP s b → S s) (fw : (s : Stamp) (b : Bytes) → PW s b → S s) where
  shelf_every : (hs : List Item) → Shelf PP hs → Every S (shelf_stamps hs)
  unfolding shelf_stamps
  shelf_every [] h = tt
  shelf_every (x ∷ xs) h = (fp x.stamp x.bytes h.0, shelf_every xs h.1)

  spare_every : (x : Spare) → Spared PP PW x → Every S (spare_stamps x)
  unfolding spare_stamps
  spare_every free h = tt
  spare_every (one_piece s b) h = (fp s b h, tt)
  spare_every (one_record s b) h = (fw s b h, tt)

  pub stamps_every : (a : Node) → Items PP PW a → Every S (node_stamps a)
  unfolding node_stamps
  stamps_every a h = every-++ S (shelf_stamps a.shelf) (spare_stamps a.spare) (shelf_every a.shelf h.shelved) (spare_every a.spare h.spared)

pub in_every : (S : Stamp → Type 0) (Q : ℕ → Bool) (a : ℕ → Node) (i l : ℕ) → ((j : ℕ) → i ≤ j → j < i + l → Q j ≡ true → Every S (node_stamps (a j))) → Every S (stamps Q a i l)
unfolding stamps
in_every S Q a i zero h = tt
in_every S Q a i (suc l) h = go (Q i) (h i (omega arith) (omega arith)) (in_every S Q a (suc i) l (λ j x y. h j (omega arith) (omega arith)))
  where
    go : (b : Bool) → (b ≡ true → Every S (node_stamps (a i))) → Every S (stamps Q a (suc i) l) → Every S (cond b (node_stamps (a i) ++ stamps Q a (suc i) l) (stamps Q a (suc i) l))
    go true x r = every-++ S (node_stamps (a i)) (stamps Q a (suc i) l) (x refl) r
    go false x r = r
