-- What a floor leaves of a shelf, the first piece under a stamp, and the stamps and bytes of a node.
use Rattle.std.proofs.Common.{◌≡◌, ℕ, zero, suc, ◌+◌, ◌*◌, ◌<◌, ◌≤◌, min, max, ◌==◌, nat_lt, take, Bool, true, false, cond, List, [], ◌∷◌, ◌++◌, map, length, Some, None, Option, get_or, inl, inr, refl, sym, ap, ◌∙◌, ap₂, arith}
use Rattle.std.specs.List.{position, position_or_len, find, slice_get, cons_option, fold}
use Rattle.std.specs.Option.{option_map, is_some, unwrap_or}
use Rattle.std.proofs.lemmas.List.{length-map, length-append, map-append, take_more, get_or-map}
use Rattle.std.proofs.lemmas.Bool.{cases_Bool}
use Rattle.std.proofs.Math.ListN.{get_or-map as get_or-map_same}
use Rattle.std.proofs.lemmas.List.Quantifiers.{position-Some}
use Rattle.std.proofs.lemmas.List.Folds.{find_at}
use Rattle.std.proofs.lemmas.Bool.Decides.{nat_tests}
use Rattle.std.specs.Int.{from_bool}
use Rattle.code.specs.Meaning.{Meaning, Lawful}
use Rattle.register.specs.Stamps.{Stamp, below, same_stamp, lowest}
use Rattle.register.specs.Nodes.{Item, cleared, held_bytes, spare_bytes}
use Rattle.register.proofs.First.{most}
use Rattle.register.specs.Reading.{shelf_stamps, shelf_piece, spare_stamps, node_stamps, list_count}
use Rattle.node.specs.declared.stamps.Stamp as memory
use Rattle.code.specs.Calls.{part}
use Rattle.node.specs.declared.pieces.Pieces.{Pieces}
use Rattle.node.specs.declared.spares.Spare.{Spare}
use Rattle.node.specs.declared.spares.Spare.TheVariants.{Free, Piece, Whole}
use Rattle.node.specs.declared.nodes.Node.{Node}
use Rattle.node.specs.Stamped.{stamp}
use Rattle.node.specs.Tagged.{Tagged, piece_at, pieces}
use Rattle.node.specs.Shelved.{no_stamp, item, shelf}
use Rattle.node.specs.Spared.{spare, stamp_in}
use Rattle.node.specs.Views.{node}
use Rattle.node.proofs.Listed.{length_pieces, pieces_at}

-- as many pieces stand on a shelf as places are in use
pub length_shelf : (m : Meaning) (s : Pieces memory.Stamp 6) → length (shelf m s) ≡ min s.count m.k
length_shelf m s = length-map (pieces no_stamp m s) item ∙ length_pieces no_stamp m s

-- clearing goes piece by piece
cleared_append : (F : Stamp) (xs ys : List Item) → cleared F (xs ++ ys) ≡ cleared F xs ++ cleared F ys
unfolding cleared
cleared_append F [] ys = refl
cleared_append F (x ∷ xs) ys = go (below x.stamp F) (cleared_append F xs ys)
  where
    go : (b : Bool) → cleared F (xs ++ ys) ≡ cleared F xs ++ cleared F ys
        → cond b (cleared F (xs ++ ys)) (x ∷ cleared F (xs ++ ys)) ≡ cond b (cleared F xs) (x ∷ cleared F xs) ++ cleared F ys
    go true e = e
    go false e = ap (λ v. x ∷ v) e

-- one more piece is cleared
pub cleared_next : (F : Stamp) (m : Meaning) (s : Pieces memory.Stamp 6) (j : ℕ) → j < min s.count m.k
    → cleared F (take (j + 1) (shelf m s))
    ≡ cleared F (take j (shelf m s)) ++ cleared F (record { stamp = stamp (get_or (map (λ x. x.tag) (pieces no_stamp m s)) j no_stamp); bytes = part m.w s.bytes j } ∷ [])
cleared_next F m s j h =
    let ps = pieces no_stamp m s in
    let x = piece_at no_stamp m.w s j in
    let long = length_shelf m s in
    let count = length_pieces no_stamp m s in
    let at = pieces_at no_stamp m s j x h in
    let tag = get_or-map (λ x. x.tag) ps j x no_stamp (omega arith) ∙ ap (λ x. x.tag) at in
    let piece = get_or-map item ps j x (item x) (omega arith) ∙ ap item at in
    ap (cleared F) (take_more (shelf m s) j (item x) (omega arith)) ∙ cleared_append F (take j (shelf m s)) _
    ∙ ap (λ y. cleared F (take j (shelf m s)) ++ cleared F (y ∷ [])) (piece ∙ ap (λ t. record { stamp = stamp t; bytes = x.bytes }) (sym tag))

-- the stamps of pieces are what their tags mean
stamps_at : (xs : List (Tagged memory.Stamp)) → shelf_stamps (map item xs) ≡ map stamp (map (λ x. x.tag) xs)
unfolding shelf_stamps
stamps_at [] = refl
stamps_at (x ∷ xs) = ap (λ v. stamp x.tag ∷ v) (stamps_at xs)

-- the stamp of a spare, as a list
stamps_in : (m : Meaning) (x : Spare) → spare_stamps (spare m x) ≡ map stamp (cons_option (stamp_in x) [])
unfolding spare_stamps
stamps_in m Free = refl
stamps_in m (Piece s) = refl
stamps_in m (Whole s) = refl

-- an item is among some, the one behind them, or past both
item_listed : (ts : List memory.Stamp) (o : Option memory.Stamp) (j : ℕ) (d : memory.Stamp)
    → get_or (ts ++ cons_option o []) j d ≡ cond (nat_lt j (length ts)) (get_or ts j d) (cond (j == length ts) (unwrap_or o d) d)
item_listed [] None j d = grind (arith, nat_tests)
item_listed [] (Some t) zero d = grind (arith, nat_tests)
item_listed [] (Some t) (suc j) d = grind (arith, nat_tests)
item_listed (t ∷ ts) o zero d = grind (arith, nat_tests)
item_listed (t ∷ ts) o (suc j) d = item_listed ts o j d ∙ grind (arith, nat_tests)

-- the highest count in some stamps
top_of : (n : ℕ) (ts : List memory.Stamp) → fold (λ top s. max top s.count) n ts ≡ list_count n (map stamp ts)
unfolding list_count
top_of n [] = refl
top_of n (t ∷ ts) = top_of (max n t.count) ts

-- the stamps of a node
module _ (m : Meaning) (a : Node) where
  -- those on the shelf and that of the spare, as they are in memory
  abbrev in_memory : List memory.Stamp
  in_memory = map (λ x. x.tag) (pieces no_stamp m a.shelf) ++ cons_option (stamp_in a.spare) []

  -- there are no others
  stamps_are : node_stamps (node m a) ≡ map stamp in_memory
  unfolding node_stamps
  stamps_are =
      ap₂ ◌++◌ (stamps_at (pieces no_stamp m a.shelf)) (stamps_in m a.spare)
      ∙ sym (map-append stamp (map (λ x. x.tag) (pieces no_stamp m a.shelf)) (cons_option (stamp_in a.spare) []))

  -- how many there are
  pub length_stamps : length (node_stamps (node m a)) ≡ min a.shelf.count m.k + from_bool (is_some (stamp_in a.spare))
  length_stamps =
      let ps = pieces no_stamp m a.shelf in
      let shelf = length-map ps (λ x. x.tag) ∙ length_pieces no_stamp m a.shelf in
      ap length stamps_are ∙ length-map in_memory stamp ∙ length-append (map (λ x. x.tag) ps) (cons_option (stamp_in a.spare) []) ∙ ap₂ ◌+◌ shelf (one (stamp_in a.spare))
    where
      one : (o : Option memory.Stamp) → length (cons_option o []) ≡ from_bool (is_some o)
      one None = refl
      one (Some t) = refl

  -- the j-th of them is on the shelf, in the spare behind it, or nowhere
  pub stamp_item : (j : ℕ)
      → get_or (node_stamps (node m a)) j lowest
      ≡ stamp (cond (nat_lt j (min a.shelf.count m.k)) (get_or (map (λ x. x.tag) (pieces no_stamp m a.shelf)) j no_stamp) (cond (j == min a.shelf.count m.k) (unwrap_or (stamp_in a.spare) no_stamp) no_stamp))
  stamp_item j =
      let ps = pieces no_stamp m a.shelf in
      let shelf = length-map ps (λ x. x.tag) ∙ length_pieces no_stamp m a.shelf in
      ap (λ v. get_or v j lowest) stamps_are ∙ get_or-map_same stamp in_memory j no_stamp
      ∙ ap stamp (item_listed (map (λ x. x.tag) ps) (stamp_in a.spare) j no_stamp ∙ rw shelf)

  -- the highest count in them: those on the shelf, then that of the spare
  pub top_stamp : (n : ℕ)
      → list_count n (node_stamps (node m a))
      ≡ max (fold (λ top s. max top s.count) n (map (λ x. x.tag) (pieces no_stamp m a.shelf))) (unwrap_or (stamp_in a.spare) no_stamp).count
  top_stamp n = ap (list_count n) stamps_are ∙ sym (top_of n in_memory) ∙ behind (map (λ x. x.tag) (pieces no_stamp m a.shelf)) n (stamp_in a.spare)
    where
      behind : (ts : List memory.Stamp) (n : ℕ) (o : Option memory.Stamp)
          → fold (λ top s. max top s.count) n (ts ++ cons_option o []) ≡ max (fold (λ top s. max top s.count) n ts) (unwrap_or o no_stamp).count
      behind [] n None = omega arith
      behind [] n (Some t) = refl
      behind (t ∷ ts) n o = behind ts (max n t.count) o

  -- the bytes that it holds
  pub held_is : held_bytes m.w (node m a) ≡ min a.shelf.count m.k * m.w + spare_bytes m.w (spare m a.spare)
  held_is = ap (λ n. n * m.w + spare_bytes m.w (spare m a.spare)) (length_shelf m a.shelf)

  -- are few
  pub held_few : Lawful m → min a.shelf.count m.k * m.w + spare_bytes m.w (spare m a.spare) ≤ 48
  held_few l =
      let long = length_shelf m a.shelf in
      let few = most m l (node m a) (omega arith) in
      let is = held_is in
      omega arith

-- the first piece under a stamp
piece_found : (t : Stamp) (xs : List (Tagged memory.Stamp)) → shelf_piece t (map item xs) ≡ option_map (λ x. x.bytes) (find (λ x. same_stamp (stamp x.tag) t) xs)
unfolding shelf_piece
piece_found t [] = refl
piece_found t (x ∷ xs) =
    let more = piece_found t xs in
    elim (cases_Bool (same_stamp (stamp x.tag) t)) [
      | inl e ↦ rw e
      | inr e ↦ rw e more
    ]

-- tags are tested as their pieces are
place_found : (test : memory.Stamp → Bool) (xs : List (Tagged memory.Stamp)) → position_or_len test (map (λ x. x.tag) xs) ≡ position_or_len (λ x. test x.tag) xs
place_found test [] = refl
place_found test (x ∷ xs) =
    let more = place_found test xs in
    elim (cases_Bool (test x.tag)) [
      | inl e ↦ rw e
      | inr e ↦ rw (e, more)
    ]

-- it is the one at the place of the first such tag
placed_first : (t : Stamp) (z : Tagged memory.Stamp) (xs : List (Tagged memory.Stamp))
    → shelf_piece t (map item xs) ≡ option_map (λ j. (get_or xs j z).bytes) (position (λ s. same_stamp (stamp s) t) (map (λ x. x.tag) xs))
placed_first t z xs =
    let test : Tagged memory.Stamp → Bool = λ x. same_stamp (stamp x.tag) t in
    piece_found t xs ∙ ap (option_map (λ x. x.bytes)) (find_at test xs)
    ∙ rw (place_found (λ s. same_stamp (stamp s) t) xs, length-map xs (λ x. x.tag)) (go xs (position_or_len test xs))
  where
    go : (ys : List (Tagged memory.Stamp)) (n : ℕ)
        → option_map (λ x. x.bytes) (slice_get ys n) ≡ option_map (λ j. (get_or ys j z).bytes) (cond (nat_lt n (length ys)) (Some n) None)
    go [] n = grind (arith, nat_tests)
    go (y ∷ ys) zero = grind (arith, nat_tests)
    go (y ∷ ys) (suc n) = go ys n ∙ grind (arith, nat_tests)

-- the first piece on a shelf under a stamp
module _ (t : Stamp) (m : Meaning) (s : Pieces memory.Stamp 6) where
  -- the place of the first such tag
  abbrev pub place : Option ℕ
  place = position (λ s. same_stamp (stamp s) t) (map (λ x. x.tag) (pieces no_stamp m s))

  -- it is in use
  pub place_used : (j : ℕ) → place ≡ Some j → j < min s.count m.k
  place_used j at =
      let ps = pieces no_stamp m s in
      let here = position-Some (λ s. same_stamp (stamp s) t) (map (λ x. x.tag) ps) j no_stamp at in
      let long = length-map ps (λ x. x.tag) in
      let count = length_pieces no_stamp m s in
      omega arith

  -- and there the piece is
  pub piece_there : (j : ℕ) → place ≡ Some j → shelf_piece t (shelf m s) ≡ Some (part m.w s.bytes j)
  piece_there j at =
      let z = piece_at no_stamp m.w s j in
      placed_first t z (pieces no_stamp m s) ∙ ap (option_map (λ j. (get_or (pieces no_stamp m s) j z).bytes)) at
      ∙ ap (λ x. Some x.bytes) (pieces_at no_stamp m s j z (place_used j at))

  -- without one there is no piece
  pub piece_nowhere : place ≡ None → shelf_piece t (shelf m s) ≡ None
  piece_nowhere none =
      let z = piece_at no_stamp m.w s 0 in
      placed_first t z (pieces no_stamp m s) ∙ ap (option_map (λ j. (get_or (pieces no_stamp m s) j z).bytes)) none

-- what each function's proof is given
pub ruleset counts = (nat_tests, length_shelf)

pub ruleset placed = (place_used, piece_there, piece_nowhere)

pub ruleset items = (nat_tests, stamp_item)

pub ruleset bytes = (held_is, held_few)
