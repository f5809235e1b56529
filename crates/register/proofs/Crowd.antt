-- Stamps that all differ, and as many writes.
use Rattle.std.proofs.Common.{◌≡◌, ℕ, zero, suc, ◌+◌, ◌<◌, ◌≤◌, Bool, true, false, not, ◌⊎◌, List, [], ◌∷◌, ◌++◌, length, Some as some, None as none, Option, sym, refl, ap, ◌∙◌, subst, inl, inr, arith}
use Rattle.register.specs.Tables.{bit, tally}
use Rattle.register.specs.Stamps.{Stamp, same_stamp}
use Rattle.register.proofs.Order.{same_is, same_itself}
use Rattle.register.proofs.Readable.{Every, none_some}

pub every-++ : (P : Stamp → Type 0) (xs ys : List Stamp) → Every P xs → Every P ys → Every P (xs ++ ys)
every-++ P [] ys h k = k
every-++ P (x ∷ xs) ys h k = (h.0, every-++ P xs ys h.1 k)

pub every_map : (P Q : Stamp → Type 0) → ((s : Stamp) → P s → Q s) → (ss : List Stamp) → Every P ss → Every Q ss
every_map P Q f [] h = tt
every_map P Q f (s ∷ ss) h = (f s h.0, every_map P Q f ss h.1)

-- another stamp than t
abbrev pub Not : Stamp → Stamp → Type 0
Not t u = u ≡ t → ⊥

-- stamps that all differ
abbrev pub Apart : List Stamp → Type 0
Apart [] = Unit {0}
Apart (s ∷ ss) = Every (Not s) ss × Apart ss

-- those that pass a test
abbrev pub pass : Bool → Stamp → List Stamp → List Stamp
pass true s ss = s ∷ ss
pass false s ss = ss

unfoldable pub sieve : (Stamp → Bool) → List Stamp → List Stamp
sieve p [] = []
sieve p (s ∷ ss) = pass (p s) s (sieve p ss)

pub sieve_every : (P : Stamp → Type 0) (p : Stamp → Bool) (ss : List Stamp) → Every P ss → Every (λ s. P s × (p s ≡ true)) (sieve p ss)
unfolding sieve
sieve_every P p [] h = tt
sieve_every P p (s ∷ ss) h = go (p s) refl (sieve_every P p ss h.1)
  where
    go : (b : Bool) → p s ≡ b → Every (λ s. P s × (p s ≡ true)) (sieve p ss) → Every (λ s. P s × (p s ≡ true)) (pass b s (sieve p ss))
    go true e r = ((h.0, e), r)
    go false e r = r

pub sieve_apart : (p : Stamp → Bool) (ss : List Stamp) → Apart ss → Apart (sieve p ss)
unfolding sieve
sieve_apart p [] h = tt
sieve_apart p (s ∷ ss) h = go (p s) (sieve_apart p ss h.1)
  where
    go : (b : Bool) → Apart (sieve p ss) → Apart (pass b s (sieve p ss))
    go true r = (every_map (λ u. Not s u × (p u ≡ true)) (Not s) (λ u x. x.0) (sieve p ss) (sieve_every (Not s) p ss h.0), r)
    go false r = r

abbrev other : Stamp → Stamp → Bool
other t s = not (same_stamp s t)

-- none is dropped
sieve_all : (t : Stamp) (ss : List Stamp) → Every (Not t) ss → length (sieve (other t) ss) ≡ length ss
unfolding sieve
sieve_all t [] h = refl
sieve_all t (s ∷ ss) h = go (same_stamp s t) refl (sieve_all t ss h.1)
  where
    go : (b : Bool) → same_stamp s t ≡ b → length (sieve (other t) ss) ≡ length ss → length (pass (not b) s (sieve (other t) ss)) ≡ suc (length ss)
    go true e r = absurd (h.0 (same_is s t e))
    go false e r = ap suc r

-- one at most is dropped
sieve_one : (t : Stamp) (ss : List Stamp) → Apart ss → length ss ≤ suc (length (sieve (other t) ss))
unfolding sieve
sieve_one t [] h = omega arith
sieve_one t (s ∷ ss) h = go (same_stamp s t) refl (sieve_one t ss h.1)
  where
    go : (b : Bool) → same_stamp s t ≡ b → length ss ≤ suc (length (sieve (other t) ss)) → suc (length ss) ≤ suc (length (pass (not b) s (sieve (other t) ss)))
    go true e r = let z = sieve_all t ss (subst (λ v. Every (Not v) ss) (same_is s t e) h.0) in omega arith
    go false e r = omega arith

not_other : (t s : Stamp) → other t s ≡ true → s ≡ t → ⊥
not_other t s h e = let k = same_itself t in let z = rw (e, k) at h in let y : ◌≡◌ {A = ℕ} 0 1 = cc in omega arith

-- Each stamp of the list stands at a place that passes the test, so there are as many such places
module _ (at : ℕ → Option Stamp) (P : ℕ → Bool) where
  abbrev pub Placed : ℕ → ℕ → Stamp → Type 0
  Placed i l s = (q : ℕ) × (i ≤ q) × (q < i + l) × (at q ≡ some s) × (P q ≡ true)

  later : (i l : ℕ) (s : Stamp) (x : Placed i (suc l) s) → (x.0 ≡ i → ⊥) → Placed (suc i) l s
  later i l s x n = let a = x.1 in let b = x.2 in (x.0, omega arith, omega arith, x.3, x.4)

  pub placed : (i l : ℕ) (ss : List Stamp) → Apart ss → Every (Placed i l) ss → length ss ≤ tally P i l
  unfolding tally
  placed i zero [] a h = omega arith
  placed i zero (s ∷ ss) a h = absurd (let x = h.0.1 in let y = h.0.2 in omega arith)
  placed i (suc l) ss a h = go (P i) refl (at i) refl (λ ss a h. placed (suc i) l ss a h)
    where
      go : (b : Bool) → P i ≡ b → (o : Option Stamp) → at i ≡ o → ((ss : List Stamp) → Apart ss → Every (Placed (suc i) l) ss → length ss ≤ tally P (suc i) l)
          → length ss ≤ bit (P i) + tally P (suc i) l
      go true e (some t) f ih =
          let ss' = sieve (other t) ss in
          let k = sieve_every (Placed i (suc l)) (other t) ss h in
          let m = every_map (λ s. Placed i (suc l) s × (other t s ≡ true)) (Placed (suc i) l)
          (λ s x. later i l s x.0 (λ z. not_other t s x.1 (let u = x.0.3 in let v : some t ≡ some s = sym f ∙ sym (ap at z) ∙ u in let y : t ≡ s = cc in sym y))) ss' k in
          let r = ih ss' (sieve_apart (other t) ss a) m in
          let o = sieve_one t ss a in
          let b = ap bit e in
          omega arith
      go true e none f ih =
          let m = every_map (Placed i (suc l)) (Placed (suc i) l) (λ s x. later i l s x (λ z. none_some (sym f ∙ sym (ap at z) ∙ x.3))) ss h in
          let r = ih ss a m in
          let b = ap bit e in
          omega arith
      go false e o f ih =
          let m = every_map (Placed i (suc l)) (Placed (suc i) l) (λ s x. later i l s x (λ z. (let u = x.4 in let v : false ≡ true = sym e ∙ sym (ap P z) ∙ u in let y : ◌≡◌ {A = ℕ} 0 1 = cc in omega arith))) ss h in
          let r = ih ss a m in
          let b = ap bit e in
          omega arith

  -- all but one, that under φ, are so placed
  pub crowd : (φ : Stamp) (n : ℕ) (ss : List Stamp) → Apart ss → Every (λ s. (s ≡ φ) ⊎ Placed 0 n s) ss → length ss ≤ suc (tally P 0 n)
  crowd φ n ss a h =
      let k = sieve_every (λ s. (s ≡ φ) ⊎ Placed 0 n s) (other φ) ss h in
      let m = every_map (λ s. ((s ≡ φ) ⊎ Placed 0 n s) × (other φ s ≡ true)) (Placed 0 n) (λ s x. elim x.0 [ inl u ↦ absurd (not_other φ s x.1 u) | inr u ↦ u ]) (sieve (other φ) ss) k in
      let r = placed 0 n (sieve (other φ) ss) (sieve_apart (other φ) ss a) m in
      let o = sieve_one φ ss a in
      omega arith
