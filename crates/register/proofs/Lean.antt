-- What a node holds, against the writes open together.
use Rattle.std.proofs.Common.{◌≡◌, ℕ, suc, ◌+◌, ◌*◌, ◌<◌, ◌≤◌, Bool, true, false, cond, not, ltb, ◌⊎◌, List, [], ◌∷◌, ◌++◌, length, Some as some, Option, sym, refl, ap, ◌∙◌, subst, ap₂, inl, inr, mul-le-mul_right, arith, length-append}
use Rattle.std.proofs.lemmas.Bool.{cases_eq, cases_lt, cases_Bool, ltb-false, le-leb, lt-ltb}
use Rattle.code.specs.Meaning.{Meaning}
use Rattle.register.specs.Tables.{tally}
use Rattle.register.specs.Stamps.{Stamp, below, same_stamp, Earlier, NoLater}
use Rattle.register.specs.Nodes.{Bytes, Item, cleared, Spare, free, one_piece, one_record, Node, cut, raise, replace, put, store, spare_bytes, held_bytes}
use Rattle.register.specs.Reading.{shelf_stamps, spare_stamps, node_stamps}
use Rattle.register.specs.History.{unstamped, stamped_as, ended_as, failed, Operation, nothing, a_write, a_read, stamp_of, Ended, open_after}
use Rattle.register.proofs.Order.{reaches, not_below, le_le, lt_to_le, both}
use Rattle.register.proofs.Counting.{more, longer}
use Rattle.register.proofs.NodeLaws.{raised, raise_to, raise_under, put_floor}
use Rattle.register.proofs.Readable.{Every, none_some}
use Rattle.register.proofs.Crowd.{every_map, every-++, Not, Apart, pass, sieve, sieve_every, sieve_apart, crowd}

-- ---- lists

every_left : (P : Stamp → Type 0) (xs ys : List Stamp) → Every P (xs ++ ys) → Every P xs
every_left P [] ys h = tt
every_left P (x ∷ xs) ys h = (h.0, every_left P xs ys h.1)

apart_left : (xs ys : List Stamp) → Apart (xs ++ ys) → Apart xs
apart_left [] ys h = tt
apart_left (x ∷ xs) ys h = (every_left (Not x) xs ys h.0, apart_left xs ys h.1)

every_insert : (P : Stamp → Type 0) (xs ys : List Stamp) (s : Stamp) → Every P (xs ++ ys) → P s → Every P ((xs ++ (s ∷ [])) ++ ys)
every_insert P [] ys s h k = (k, h)
every_insert P (x ∷ xs) ys s h k = (h.0, every_insert P xs ys s h.1 k)

apart_insert : (xs ys : List Stamp) (s : Stamp) → Apart (xs ++ ys) → Every (Not s) (xs ++ ys) → Apart ((xs ++ (s ∷ [])) ++ ys)
apart_insert [] ys s h k = (k, h)
apart_insert (x ∷ xs) ys s h k = (every_insert (Not x) xs ys s h.0 (λ e. k.0 (sym e)), apart_insert xs ys s h.1 k.1)

apart_last : (xs : List Stamp) (s : Stamp) → Apart xs → Every (Not s) xs → Apart (xs ++ (s ∷ []))
apart_last [] s h k = (tt, tt)
apart_last (x ∷ xs) s h k = (every-++ (Not x) xs (s ∷ []) h.0 ((λ e. k.0 (sym e)), tt), apart_last xs s h.1 k.1)

sieve-++ : (p : Stamp → Bool) (xs ys : List Stamp) → sieve p (xs ++ ys) ≡ sieve p xs ++ sieve p ys
unfolding sieve
sieve-++ p [] ys = refl
sieve-++ p (x ∷ xs) ys = go (p x) (sieve-++ p xs ys)
  where
    go : (b : Bool) → sieve p (xs ++ ys) ≡ sieve p xs ++ sieve p ys → pass b x (sieve p (xs ++ ys)) ≡ pass b x (sieve p xs) ++ sieve p ys
    go true e = ap (λ v. x ∷ v) e
    go false e = e

-- ---- the stamps after a raise and after a Store

cleared_stamps : (F : Stamp) (xs : List Item) → shelf_stamps (cleared F xs) ≡ sieve (reaches F) (shelf_stamps xs)
unfolding shelf_stamps cleared sieve
cleared_stamps F [] = refl
cleared_stamps F (x ∷ xs) = go (below x.stamp F) (cleared_stamps F xs)
  where
    go : (b : Bool) → shelf_stamps (cleared F xs) ≡ sieve (reaches F) (shelf_stamps xs)
        → shelf_stamps (cond b (cleared F xs) (x ∷ cleared F xs)) ≡ pass (not b) x.stamp (sieve (reaches F) (shelf_stamps xs))
    go true e = e
    go false e = ap (λ v. x.stamp ∷ v) e

push_stamps : (hs : List Item) (h : Item) → shelf_stamps (hs ++ (h ∷ [])) ≡ shelf_stamps hs ++ (h.stamp ∷ [])
unfolding shelf_stamps
push_stamps [] h = refl
push_stamps (x ∷ xs) h = ap (λ v. x.stamp ∷ v) (push_stamps xs h)

shelf_length : (hs : List Item) → length (shelf_stamps hs) ≡ length hs
unfolding shelf_stamps
shelf_length [] = refl
shelf_length (x ∷ xs) = ap suc (shelf_length xs)

-- a spare is in use
abbrev pub in_use : Spare → Bool
in_use free = false
in_use (one_piece s b) = true
in_use (one_record s b) = true

module _ (C : Meaning) (i : ℕ) where
  cut_stamps : (F : Stamp) (x : Spare) → spare_stamps (cut C i F x) ≡ sieve (reaches F) (spare_stamps x)
  unfolding spare_stamps cut sieve
  cut_stamps F free = refl
  cut_stamps F (one_piece s b) = go (below s F)
    where
      go : (t : Bool) → spare_stamps (cond t free (one_piece s b)) ≡ pass (not t) s []
      go true = refl
      go false = refl
  cut_stamps F (one_record s b) = go (below s F) (same_stamp s F)
    where
      go : (t u : Bool) → spare_stamps (cond t free (cond u (one_piece s (C.piece b i)) (one_record s b))) ≡ pass (not t) s []
      go true u = refl
      go false true = refl
      go false false = refl

  cut_busy : (F : Stamp) (x : Spare) → in_use (cut C i F x) ≡ true → in_use x ≡ true
  unfolding cut
  cut_busy F free h = h
  cut_busy F (one_piece s b) h = refl
  cut_busy F (one_record s b) h = refl

  raised_stamps : (F : Stamp) (a : Node) → node_stamps (raised C i F a) ≡ sieve (reaches F) (node_stamps a)
  unfolding node_stamps
  raised_stamps F a = ap₂ (λ u v. u ++ v) (cleared_stamps F a.shelf) (cut_stamps F a.spare) ∙ sym (sieve-++ (reaches F) (shelf_stamps a.shelf) (spare_stamps a.spare))

  pub raise_every : (P : Stamp → Type 0) (F : Stamp) (a : Node) → Every P (node_stamps a) → Every P (node_stamps (raise C i F a))
  unfolding raise
  raise_every P F a h = go (below a.floor F)
    where
      go : (b : Bool) → Every P (node_stamps (cond b (raised C i F a) a))
      go true = subst (Every P) (sym (raised_stamps F a)) (every_map (λ s. P s × (reaches F s ≡ true)) P (λ s x. x.0) (sieve (reaches F) (node_stamps a)) (sieve_every P (reaches F) (node_stamps a) h))
      go false = h

  replaced_is : (s : Stamp) (r : Bytes) (x : Spare) → (replace s r x ≡ one_record s r) ⊎ ((replace s r x ≡ x) × (in_use x ≡ true))
  unfolding replace
  replaced_is s r free = inl refl
  replaced_is s r (one_piece t b) = go (below t s)
    where
      go : (u : Bool) → (cond u (one_record s r) (one_piece t b) ≡ one_record s r) ⊎ ((cond u (one_record s r) (one_piece t b) ≡ one_piece t b) × (true ≡ true))
      go true = inl refl
      go false = inr (refl, refl)
  replaced_is s r (one_record t b) = go (below t s)
    where
      go : (u : Bool) → (cond u (one_record s r) (one_record t b) ≡ one_record s r) ⊎ ((cond u (one_record s r) (one_record t b) ≡ one_record t b) × (true ≡ true))
      go true = inl refl
      go false = inr (refl, refl)

  -- what a placed stamp does to the stamps of a node, and to its spare
  pub data Placing (s : Stamp) (a a' : Node) : Type 0 where
    shelved : node_stamps a' ≡ (shelf_stamps a.shelf ++ (s ∷ [])) ++ spare_stamps a.spare → a'.spare ≡ a.spare → Placing s a a'
    spared : node_stamps a' ≡ shelf_stamps a.shelf ++ (s ∷ []) → C.k ≤ length a.shelf → Placing s a a'
    left : a' ≡ a → Placing s a a'

  placing : (s : Stamp) (r : Bytes) (a : Node) → Placing s a (put C i s r a)
  unfolding put node_stamps spare_stamps
  placing s r a = go (ltb (length a.shelf) C.k) refl
    where
      full : Node
      full = record { floor = a.floor; shelf = a.shelf; spare = replace s r a.spare }

      more_shelf : Node
      more_shelf = record { floor = a.floor; shelf = a.shelf ++ (record { stamp = s; bytes = C.piece r i } ∷ []); spare = a.spare }

      on_shelf : Placing s a more_shelf
      on_shelf = shelved (ap (λ v. v ++ spare_stamps a.spare) (push_stamps a.shelf (record { stamp = s; bytes = C.piece r i }))) refl

      in_spare : C.k ≤ length a.shelf → Placing s a full
      in_spare h =
          elim (replaced_is s r a.spare) [
            | inl e ↦ spared (ap (λ v. shelf_stamps a.shelf ++ spare_stamps v) e) h
            | inr e ↦ left (ap (λ v. record { floor = a.floor; shelf = a.shelf; spare = v }) e.0)
          ]

      go : (b : Bool) → ltb (length a.shelf) C.k ≡ b → Placing s a (cond b more_shelf full)
      go true e = on_shelf
      go false e = in_spare (ltb-false (length a.shelf) C.k e)

  placed_every : (P : Stamp → Type 0) (s : Stamp) (a a' : Node) → Placing s a a' → P s → Every P (node_stamps a) → Every P (node_stamps a')
  unfolding node_stamps
  placed_every P s a a' (shelved e f) p h = subst (Every P) (sym e) (every_insert P (shelf_stamps a.shelf) (spare_stamps a.spare) s h p)
  placed_every P s a a' (spared e f) p h = subst (Every P) (sym e) (every-++ P (shelf_stamps a.shelf) (s ∷ []) (every_left P (shelf_stamps a.shelf) (spare_stamps a.spare) h) (p, tt))
  placed_every P s a a' (left e) p h = rw e h

  placed_apart : (s : Stamp) (a a' : Node) → Placing s a a' → Every (Not s) (node_stamps a) → Apart (node_stamps a) → Apart (node_stamps a')
  unfolding node_stamps
  placed_apart s a a' (shelved e f) n h = subst Apart (sym e) (apart_insert (shelf_stamps a.shelf) (spare_stamps a.spare) s h n)
  placed_apart s a a' (spared e f) n h =
      subst Apart (sym e) (apart_last (shelf_stamps a.shelf) s (apart_left (shelf_stamps a.shelf) (spare_stamps a.spare) h) (every_left (Not s) (shelf_stamps a.shelf) (spare_stamps a.spare) n))
  placed_apart s a a' (left e) n h = rw e h

  pub store_every : (P : Stamp → Type 0) (s F : Stamp) (r : Bytes) (a : Node) → P s → Every P (node_stamps a) → Every P (node_stamps (store C i s F r a))
  unfolding store
  store_every P s F r a p h = go (below a.floor s)
    where
      go : (b : Bool) → Every P (node_stamps (cond b (put C i s r (raise C i F a)) a))
      go true = placed_every P s (raise C i F a) (put C i s r (raise C i F a)) (placing s r (raise C i F a)) p (raise_every P F a h)
      go false = h

-- ---- the latest write at a node

-- s is the stamp of a write, at φ or above, and what ended before that write began stands no later than φ
abbrev pub HeldOk : (ℕ → Operation) → Stamp → Stamp → Type 0
HeldOk B φ s = (q : ℕ) × (stamp_of (B q) ≡ some s) × (NoLater φ s) × ((q' : ℕ) (t : Stamp) (e : ℕ) → Ended (B q') t e → e < q → NoLater t φ)

-- the write that began at q is open after p
abbrev pub opened : (ℕ → Operation) → ℕ → ℕ → Bool
opened B p q = open_after p q (B q)

-- at some time k writes were open together
abbrev pub Crowded : Meaning → (ℕ → Operation) → ℕ → Type 0
Crowded C B n = (p : ℕ) × (p < n) × (C.k ≤ tally (opened B p) 0 n)

-- what a node holds is accounted for by the writes open together
pub record LeanNode (C : Meaning) (B : ℕ → Operation) (n : ℕ) (a : Node) : Type 0 where
  pub held : Every (HeldOk B a.floor) (node_stamps a)
  pub apart : Apart (node_stamps a)
  pub crowds : in_use a.spare ≡ true → Crowded C B n

-- a stamped write that began by the place p is open after p, or has ended by then
open_or : (p q : ℕ) (o : Operation) (s : Stamp) → stamp_of o ≡ some s → q ≤ p → (open_after p q o ≡ true) ⊎ ((e : ℕ) × Ended o s e × (e ≤ p))
open_or p q nothing s h l = none_some h
open_or p q (a_write c r unstamped) s h l = none_some h
open_or p q (a_write c r (stamped_as t)) s h l = inl (le-leb q p l)
open_or p q (a_write c r (ended_as t e)) s h l =
    elim (cases_lt p e) [
      | inl x ↦ inl (rw (le-leb q p l, lt-ltb p e x))
      | inr x ↦ inr (e, (c, (r, cc)), x)
    ]
open_or p q (a_write c r (failed e)) s h l = none_some h
open_or p q (a_read c x) s h l = none_some h

module _ (B : ℕ → Operation) (n : ℕ) (φ : Stamp) (clock : (q : ℕ) → n ≤ q → B q ≡ nothing) (parted : (q : ℕ) (s : Stamp) (e : ℕ) → Ended (B q) s e → (e ≡ 0) ⊎ (B e ≡ nothing)) where
  -- the write that began last, of those with the stamps ss
  record Top (ss : List Stamp) : Type 0 where
    place : ℕ
    stamp : Stamp
    is : stamp_of (B place) ≡ some stamp
    past : (q' : ℕ) (t : Stamp) (e : ℕ) → Ended (B q') t e → e < place → NoLater t φ
    all : Every (λ s. (q : ℕ) × (stamp_of (B q) ≡ some s) × (NoLater φ s) × (q ≤ place)) ss

  top : (s : Stamp) (ss : List Stamp) → Every (HeldOk B φ) (s ∷ ss) → Top (s ∷ ss)
  top s [] h = record { place = h.0.0; stamp = s; is = h.0.1; past = h.0.3; all = ((h.0.0, h.0.1, h.0.2, omega arith), tt) }
  top s (u ∷ us) h =
      let t = top u us h.1 in
      elim (cases_lt h.0.0 t.place) [
        | inl l ↦ record { place = t.place; stamp = t.stamp; is = t.is; past = t.past; all = ((h.0.0, h.0.1, h.0.2, omega arith), t.all) }
        | inr l ↦ record {
          place = h.0.0;
          stamp = s;
          is = h.0.1;
          past = h.0.3;
          all = (
            (h.0.0, h.0.1, h.0.2, omega arith),
            every_map (λ s. (q : ℕ) × (stamp_of (B q) ≡ some s) × (NoLater φ s) × (q ≤ t.place)) (λ v. (q : ℕ) × (stamp_of (B q) ≡ some v) × (NoLater φ v) × (q ≤ h.0.0))
                (λ v x. let y = x.3 in (x.0, x.1, x.2, omega arith)) (u ∷ us) t.all,
          );
        }
      ]

  begun : (q : ℕ) (s : Stamp) → stamp_of (B q) ≡ some s → q < n
  begun q s h = elim (cases_lt q n) [ inl x ↦ x | inr x ↦ none_some (sym (ap stamp_of (clock q x)) ∙ h) ]

  -- as many writes were open together, but for one
  pub together : (s : Stamp) (ss : List Stamp) → Apart (s ∷ ss) → Every (HeldOk B φ) (s ∷ ss) → (p : ℕ) × (p < n) × (length (s ∷ ss) ≤ suc (tally (opened B p) 0 n))
  together s ss a h =
      let t = top s ss h in
      let p = t.place in
      let at : ℕ → Option Stamp = λ q. stamp_of (B q) in
      elim (cases_eq p 0) [
        | inl z ↦ (
          p,
          begun p t.stamp t.is,
          crowd at (opened B p) t.stamp n (s ∷ ss) a
              (every_map (λ v. (q : ℕ) × (stamp_of (B q) ≡ some v) × (NoLater φ v) × (q ≤ p)) _
              (λ v x.
              let y = x.3 in
              let e : x.0 ≡ p = omega arith in
              let k : some v ≡ some t.stamp = sym x.1 ∙ ap (λ q. stamp_of (B q)) e ∙ t.is in
              let m : v ≡ t.stamp = cc in
              inl m) (s ∷ ss) t.all),
        )
        | inr z ↦ (
          p,
          begun p t.stamp t.is,
          crowd at (opened B p) φ n (s ∷ ss) a
              (every_map (λ v. (q : ℕ) × (stamp_of (B q) ≡ some v) × (NoLater φ v) × (q ≤ p)) _
              (λ v x.
              let q = x.0 in
              elim (open_or p q (B q) v x.1 x.3) [
                | inl o ↦ inr (q, omega arith, (let y = begun q v x.1 in omega arith), x.1, o)
                | inr o ↦
                    elim (cases_lt o.0 p) [
                      | inl l ↦ inl (both v φ (t.past q v o.0 o.1 l) x.2)
                      | inr l ↦
                          let e : o.0 ≡ p = let y = o.2 in omega arith in
                          elim (parted q v o.0 o.1) [
                            | inl y ↦ absurd (omega arith)
                            | inr y ↦ none_some (sym (ap stamp_of (sym (ap B e) ∙ y)) ∙ t.is)
                          ]
                    ]
              ]) (s ∷ ss) t.all),
        )
      ]

module _ (C : Meaning) (B : ℕ → Operation) (n : ℕ) (clock : (q : ℕ) → n ≤ q → B q ≡ nothing) (parted : (q : ℕ) (s : Stamp) (e : ℕ) → Ended (B q) s e → (e ≡ 0) ⊎ (B e ≡ nothing)) where
  some_together : (φ : Stamp) (ss : List Stamp) → 1 ≤ length ss → Apart ss → Every (HeldOk B φ) ss → (p : ℕ) × (p < n) × (length ss ≤ suc (tally (opened B p) 0 n))
  some_together φ [] l a h = absurd (omega arith)
  some_together φ (s ∷ ss) l a h = together B n φ clock parted s ss a h

  pub lean_raise : (i : ℕ) (F : Stamp) (a : Node) → LeanNode C B n a → LeanNode C B n (raise C i F a)
  unfolding raise
  lean_raise i F a h = go (below a.floor F) refl
    where
      go : (b : Bool) → below a.floor F ≡ b → LeanNode C B n (cond b (raised C i F a) a)
      go true ee =
          let z = sym (raised_stamps C i F a) in record {
            held = subst (Every (HeldOk B F)) z
                (every_map (λ s. HeldOk B a.floor s × (reaches F s ≡ true)) (HeldOk B F)
                (λ s x. (x.0.0, x.0.1, not_below F s x.1, λ q t e y u. le_le t a.floor F (x.0.3 q t e y u) (lt_to_le a.floor F ee))) (sieve (reaches F) (node_stamps a))
                (sieve_every (HeldOk B a.floor) (reaches F) (node_stamps a) h.held));
            apart = subst Apart z (sieve_apart (reaches F) (node_stamps a) h.apart);
            crowds = λ x. h.crowds (cut_busy C i F a.spare x);
          }
      go false e = h

  lean_place : (i : ℕ) (s : Stamp) (a a' : Node) → Placing C i s a a' → a'.floor ≡ a.floor → HeldOk B a.floor s → Every (Not s) (node_stamps a) → LeanNode C B n a → LeanNode C B n a'
  lean_place i s a a' pl fl new un h =
      let held : Every (HeldOk B a.floor) (node_stamps a') = placed_every C i (HeldOk B a.floor) s a a' pl new h.held in
      let apart : Apart (node_stamps a') = placed_apart C i s a a' pl un h.apart in
      record {
        held = subst (λ v. Every (HeldOk B v) (node_stamps a')) (sym fl) held;
        apart = apart;
        crowds = λ x. full pl held apart x;
      }
    where
      full : Placing C i s a a' → Every (HeldOk B a.floor) (node_stamps a') → Apart (node_stamps a') → in_use a'.spare ≡ true → Crowded C B n
      full (shelved e f) hd ap' x = h.crowds (sym (ap in_use f) ∙ x)
      full (spared e f) hd ap' x =
          let l = shelf_length a.shelf in
          let m : length (node_stamps a') ≡ length a.shelf + 1 = ap length e ∙ simp length-append (omega arith) in
          let t = some_together a.floor (node_stamps a') (omega arith) ap' hd in
          let u = t.2 in
          (t.0, t.1, omega arith)
      full (left e) hd ap' x = h.crowds (sym (ap (λ v. in_use v.spare) e) ∙ x)

  pub lean_store : (i q : ℕ) (s F : Stamp) (r : Bytes) (a : Node) → stamp_of (B q) ≡ some s → ((q' : ℕ) (t : Stamp) (e : ℕ) → Ended (B q') t e → e < q → NoLater t F) → Earlier F s
      → Every (Not s) (node_stamps a) → LeanNode C B n a → LeanNode C B n (store C i s F r a)
  unfolding store
  lean_store i q s F r a is past less un h = go (below a.floor s) refl
    where
      b : Node
      b = raise C i F a

      go : (v : Bool) → below a.floor s ≡ v → LeanNode C B n (cond v (put C i s r (raise C i F a)) a)
      go true e =
          lean_place i s (raise C i F a) (put C i s r (raise C i F a)) (placing C i s r (raise C i F a)) (put_floor C i s r (raise C i F a))
          (q, is, lt_to_le (raise C i F a).floor s (raise_under C i F s a less e), λ q' t e y u. le_le t F (raise C i F a).floor (past q' t e y u) (raise_to C i F a)) (raise_every C i (Not s) F a un) (lean_raise i F a h)
      go false e = h

  pub lean_few : (m : ℕ) (a : Node) → m + 1 ≤ C.k → ((p : ℕ) → p < n → tally (opened B p) 0 n ≤ m) → LeanNode C B n a → held_bytes C.w a ≤ (m + 1) * C.w
  unfolding node_stamps
  lean_few m a few least h =
      elim (cases_Bool (in_use a.spare)) [
        | inl e ↦ absurd (let c = h.crowds e in let z = least c.0 c.1 in let y = c.2 in omega arith)
        | inr e ↦
            let z = no_spare C.w a.spare e in
            let l : length a.shelf ≤ m + 1 = short (cases_lt 0 (length a.shelf)) in
            let k = mul-le-mul_right C.w l in
            omega arith
      ]
    where
      no_spare : (w : ℕ) (x : Spare) → in_use x ≡ false → spare_bytes w x ≡ 0
      no_spare w free e = refl
      no_spare w (one_piece s b) e = cc
      no_spare w (one_record s b) e = cc

      short : (0 < length a.shelf) ⊎ (length a.shelf ≤ 0) → length a.shelf ≤ m + 1
      short (inl x) =
          let l = shelf_length a.shelf in
          let y = length-append (shelf_stamps a.shelf) (spare_stamps a.spare) in
          let t = some_together a.floor (node_stamps a) (omega arith) h.apart h.held in
          let u = least t.0 t.1 in
          let v = t.2 in
          omega arith
      short (inr x) = omega arith

-- the history goes on
pub lean_later : (C : Meaning) (B B' : ℕ → Operation) (n : ℕ) (a : Node) → ((q : ℕ) (s : Stamp) → stamp_of (B q) ≡ some s → stamp_of (B' q) ≡ some s)
    → ((q q' : ℕ) (s t : Stamp) (e : ℕ) → stamp_of (B q) ≡ some s → Ended (B' q') t e → e < q → Ended (B q') t e)
    → ((p q : ℕ) → p < n → open_after p q (B q) ≡ true → open_after p q (B' q) ≡ true) → LeanNode C B n a → LeanNode C B' (suc n) a
lean_later C B B' n a later back opens h = record {
  held = every_map (HeldOk B a.floor) (HeldOk B' a.floor)
      (λ s x. (x.0, later x.0 s x.1, x.2, λ q t e y l. x.3 q t e (back x.0 q s t e x.1 y l) l)) (node_stamps a) h.held;
  apart = h.apart;
  crowds = λ x.
      let c = h.crowds x in
      let m = more (opened B c.0) (opened B' c.0) 0 n (λ q u v y. opens c.0 q c.1 y) in
      let l = longer (opened B' c.0) 0 n in
      let p = c.1 in
      let k = c.2 in
      (c.0, omega arith, omega arith);
}
