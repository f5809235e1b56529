-- The order of stamps: irreflexive, transitive and total.
use Rattle.std.proofs.Common.{◌≡◌, ℕ, ◌<◌, Bool, true, false, not, eqb, ◌⊎◌, sym, ap, ◌∙◌, ap₂, inl, inr, arith}
use Rattle.std.proofs.lemmas.Bool.{and_parts, eqb-true, cases_Bool}
use Rattle.std.proofs.lemmas.Bool.Decides.{nat_tests}
use Rattle.register.specs.Stamps.{Stamp, below, same_stamp, lowest, Earlier, NoLater}

-- t stands at s or above it, as a test
abbrev pub reaches : Stamp → Stamp → Bool
reaches s t = not (below t s)

pub not_below : (s t : Stamp) → reaches s t ≡ true → NoLater s t
not_below s t h = grind arith

pub is_reached : (s t : Stamp) → NoLater s t → reaches s t ≡ true
is_reached s t h = grind arith

pub lt_lt : (s t u : Stamp) → Earlier s t → Earlier t u → Earlier s u
unfolding below
lt_lt s t u h k = grind (arith, nat_tests)

pub le_lt : (s t u : Stamp) → NoLater s t → Earlier t u → Earlier s u
unfolding below
le_lt s t u h k = grind (arith, nat_tests)

pub lt_le : (s t u : Stamp) → Earlier s t → NoLater t u → Earlier s u
unfolding below
lt_le s t u h k = grind (arith, nat_tests)

pub le_le : (s t u : Stamp) → NoLater s t → NoLater t u → NoLater s u
unfolding below
le_le s t u h k = grind (arith, nat_tests)

pub lt_to_le : (s t : Stamp) → Earlier s t → NoLater s t
unfolding below
lt_to_le s t h = grind (arith, nat_tests)

pub le_itself : (s : Stamp) → NoLater s s
unfolding below
le_itself s = grind (arith, nat_tests)

pub clash : (s t : Stamp) {A : Type 0} → Earlier s t → NoLater t s → A
clash s t h k = absurd (let z : ◌≡◌ {A = ℕ} 0 1 = cc in omega arith)

pub counted : (s t : Stamp) → s.count < t.count → Earlier s t
unfolding below
counted s t h = grind (arith, nat_tests)

same_parts : (s t : Stamp) → s.count ≡ t.count → s.client ≡ t.client → s ≡ t
same_parts s t a b = ap₂ (λ x y. record { count = x; client = y }) a b

pub both : (s t : Stamp) → NoLater s t → NoLater t s → s ≡ t
unfolding below
both s t h k = same_parts s t (grind (arith, nat_tests)) (grind (arith, nat_tests))

over_lowest : (s : Stamp) → NoLater lowest s
unfolding below
over_lowest s = grind (arith, nat_tests)

pub lowest_is : (s : Stamp) → NoLater s lowest → s ≡ lowest
lowest_is s h = both s lowest h (over_lowest s)

pub same_is : (s t : Stamp) → same_stamp s t ≡ true → s ≡ t
unfolding same_stamp
same_is s t h =
    let p = and_parts (eqb s.count t.count) (eqb s.client t.client) h in
    same_parts s t (eqb-true s.count t.count p.0) (eqb-true s.client t.client p.1)

pub same_itself : (s : Stamp) → same_stamp s s ≡ true
unfolding same_stamp
same_itself s = grind (arith, nat_tests)

-- a lower stamp is another
pub not_same : (s t : Stamp) → Earlier s t → same_stamp s t ≡ false
unfolding below same_stamp
not_same s t h = grind (arith, nat_tests)

-- two stamps are one, or not
pub one_or_not : (s t : Stamp) → (s ≡ t) ⊎ (s ≡ t → ⊥)
one_or_not s t =
    elim (cases_Bool (same_stamp s t)) [
      | inl e ↦ inl (same_is s t e)
      | inr e ↦ inr (λ q. let z = ap (same_stamp s) q in let k = same_itself s in let y : ◌≡◌ {A = Bool} true false = sym (same_itself t) ∙ rw q at e in let o : ◌≡◌ {A = ℕ} 0 1 = cc in omega arith)
    ]
