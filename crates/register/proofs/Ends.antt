-- Three rounds end a write.
use Rattle.std.proofs.Common.{◌≡◌, ℕ, suc, ◌+◌, ◌-◌, ◌<◌, ◌≤◌, Bool, true, false, cond, eqb, ltb, leb, ◌⊎◌, List, [], ◌∷◌, ◌++◌, Option, sym, refl, ap, ◌∙◌, subst, inl, inr, arith}
use Rattle.std.proofs.lemmas.Bool.{cases_eq, eqb-true, eqb-false, eq-eqb, ltb-true, lt-ltb}
use Rattle.code.specs.Meaning.{Meaning, Lawful, Chosen}
use Rattle.register.specs.Tables.{upd}
use Rattle.register.specs.Stamps.{Stamp, lowest}
use Rattle.register.specs.Nodes.{Bytes}
use Rattle.register.specs.Reading.{top_floor, top_count}
use Rattle.register.specs.Machine.{laid_out, look, storing, settling, Mail, write_look, write_store, write_settle, Client, off, idle, busy, Segment, Call, sign_on, sign_off, begin_write, begin_read, take, fetch, Outcome, refused, done, round, wrote, Turn, Step, nobody, no_answers, posted, write_turn, stamp_turn, fetched, next_round, fetch_turn, turned, step}
use Rattle.register.specs.History.{begun, reading, start, Write, unstamped, stamped_as, ended_as, failed, Operation, a_write, a_read, History, is_done, moved, write_on, noted, history, entries, after}
use Rattle.register.specs.Progress.{caller, own, round_at, Over, ComesToEnd, Progress}
use Rattle.register.proofs.Invariant.{by, is_open, Inv}
use Rattle.register.proofs.Changes.{at, off_at}
use Rattle.register.proofs.Steps.{by_test, step_holds, entry}
use Rattle.register.proofs.First.{after_holds}
use Rattle.register.proofs.Whole.{reached}
use Rattle.register.proofs.Rounds.{others, round_holds}

-- ---- an idle client that only takes and fetches stays idle

-- a take or a fetch
abbrev is_visit : Call → Bool
is_visit (sign_on c) = false
is_visit (sign_off c) = false
is_visit (begin_write c r) = false
is_visit (begin_read c k) = false
is_visit (take c i) = true
is_visit (fetch c i) = true

-- takes and fetches only
abbrev Visits : List Call → Type 0
Visits [] = Unit {0}
Visits (x ∷ xs) = (is_visit x ≡ true) × Visits xs

round_visits : (c : ℕ) (is : List ℕ) (rest : List Call) → Visits rest → Visits (round_at c is ++ rest)
round_visits c [] rest h = h
round_visits c (i ∷ is) rest h = (refl, (refl, round_visits c is rest h))

module _ (C : Meaning) (c : ℕ) (l : Option Bytes) where
  fetch_idle : (σ : Segment) (d i : ℕ) → d ≡ c → σ.client c ≡ idle l → (turned σ d (fetch_turn C d i (σ.client d) (σ.mail d))).after.client c ≡ idle l
  unfolding fetch_turn
  fetch_idle σ d i e h =
      rw e (at σ.client c (fetch_turn C c i (σ.client c) (σ.mail c)).client ∙ ap (λ x. (fetch_turn C c i x (σ.mail c)).client) h)

  idle_visit : (σ : Segment) (y : Call) → is_visit y ≡ true → caller y ≡ c → σ.client c ≡ idle l → (step C y σ).after.client c ≡ idle l
  unfolding step
  idle_visit σ (take d i) v e h =
      by_test (λ (x : Step). x.after.client c ≡ idle l) (ltb d σ.clients) _ _
      (λ _. by_test (λ (x : Step). x.after.client c ≡ idle l) (ltb i C.n) _ _ (λ _. h) (λ _. h)) (λ _. h)
  idle_visit σ (fetch d i) v e h =
      by_test (λ (x : Step). x.after.client c ≡ idle l) (ltb d σ.clients) _ _
      (λ _. by_test (λ (x : Step). x.after.client c ≡ idle l) (ltb i C.n) _ _ (λ _. fetch_idle σ d i e h) (λ _. h)) (λ _. h)
  idle_visit σ (sign_on d) v e h = absurd (let z : ◌≡◌ {A = ℕ} 0 1 = cc in omega arith)
  idle_visit σ (sign_off d) v e h = absurd (let z : ◌≡◌ {A = ℕ} 0 1 = cc in omega arith)
  idle_visit σ (begin_write d r) v e h = absurd (let z : ◌≡◌ {A = ℕ} 0 1 = cc in omega arith)
  idle_visit σ (begin_read d k) v e h = absurd (let z : ◌≡◌ {A = ℕ} 0 1 = cc in omega arith)

  idle_stays : (ys : List Call) (σ : Segment) → Visits (own c ys) → σ.client c ≡ idle l → (after C σ ys).client c ≡ idle l
  idle_stays [] σ v h = h
  idle_stays (y ∷ ys) σ v h = go (eqb (caller y) c) refl v (λ τ v h. idle_stays ys τ v h)
    where
      go : (t : Bool) → eqb (caller y) c ≡ t → Visits (cond t (y ∷ own c ys) (own c ys))
          → ((τ : Segment) → Visits (own c ys) → τ.client c ≡ idle l → (after C τ ys).client c ≡ idle l) → (after C (step C y σ).after ys).client c ≡ idle l
      go true t v rec = rec (step C y σ).after v.1 (idle_visit σ y v.0 (eqb-true (caller y) c t) h)
      go false t v rec = rec (step C y σ).after v ((others C c σ y (λ z. eqb-false (caller y) c t (sym z))).client ∙ h)

  -- ---- the three rounds of a write

  module _ (r : Bytes) (many : 1 ≤ C.n - C.f) where
    -- after its Look round a write has ended, or its Store round begins
    Looked : Client → (ℕ → Mail) → Type 0
    Looked x mail = (x ≡ idle l) ⊎ ((s : Stamp) × ((F : Stamp) × ((x ≡ busy l (write_store r s F nobody)) × (mail ≡ posted C.n (storing s F r)))))

    stamping : (i : ℕ) (mail : ℕ → Mail) (N : ℕ) (F : Stamp) → Looked (stamp_turn C c i mail l r N F).client (stamp_turn C c i mail l r N F).mail
    unfolding Looked
    stamping i mail N F =
        by_test (λ (t : Turn). Looked t.client t.mail) (leb 999999999 N) _ _ (λ _. inl refl) (λ _. inr (record { count = N + 1; client = c }, (F, (refl, refl))))

    settles : (ys : List Call) (is : List ℕ) (σ : Segment) (s : Stamp) → Chosen (C.n - C.f) C.n is → c < σ.clients
        → σ.client c ≡ busy l (write_settle r s nobody) → σ.mail c ≡ posted C.n (settling s) → own c ys ≡ round_at c is ++ [] → (after C σ ys).client c ≡ idle l
    settles ys is σ s ch laid e d w =
        let t = round_holds C c l (settling s) (λ got ans. write_settle r s got) (λ i mail got ans. fetched C c i mail l (wrote s) (idle l))
        (λ i mail got ans a. (ans, refl)) (λ x mail. x ≡ idle l) (λ i mail got ans. refl) ys [] is σ many ch laid e d w in
        ap (λ v. v.client c) t.goes_on ∙ idle_stays t.left t.seg (rw t.owns tt) t.ends

    stores : (ys : List Call) (is js : List ℕ) (σ : Segment) (s F : Stamp) → Chosen (C.n - C.f) C.n is → Chosen (C.n - C.f) C.n js → c < σ.clients
        → σ.client c ≡ busy l (write_store r s F nobody) → σ.mail c ≡ posted C.n (storing s F r) → own c ys ≡ round_at c is ++ (round_at c js ++ []) → (after C σ ys).client c ≡ idle l
    stores ys is js σ s F ch ch' laid e d w =
        let t = round_holds C c l (storing s F r) (λ got ans. write_store r s F got) (λ i mail got ans. next_round C c i mail l round (write_settle r s nobody) (settling s))
        (λ i mail got ans a. (ans, refl)) (λ x mail. (x ≡ busy l (write_settle r s nobody)) × (mail ≡ posted C.n (settling s))) (λ i mail got ans. (refl, refl))
        ys (round_at c js ++ []) is σ many ch laid e d w in
        ap (λ v. v.client c) t.goes_on ∙ settles t.left js t.seg s ch' t.laid t.ends.0 t.ends.1 t.owns

    writes : (ys : List Call) (is js ks : List ℕ) (σ : Segment) → Chosen (C.n - C.f) C.n is → Chosen (C.n - C.f) C.n js → Chosen (C.n - C.f) C.n ks → c < σ.clients
        → σ.client c ≡ busy l (write_look r nobody no_answers) → σ.mail c ≡ posted C.n look → own c ys ≡ round_at c is ++ (round_at c js ++ (round_at c ks ++ [])) → (after C σ ys).client c ≡ idle l
    unfolding Looked
    writes ys is js ks σ ci cj ck laid e d w =
        let t = round_holds C c l look (λ got ans. write_look r got ans) (λ i mail got ans. stamp_turn C c i mail l r (top_count got ans 0 C.n) (top_floor got ans lowest 0 C.n))
        (λ i mail got ans a. (upd ans i a, refl)) Looked (λ i mail got ans. stamping i mail (top_count got ans 0 C.n) (top_floor got ans lowest 0 C.n))
        ys (round_at c js ++ (round_at c ks ++ [])) is σ many ci laid e d w in
        ap (λ v. v.client c) t.goes_on ∙ elim t.ends [
          | inl x ↦ idle_stays t.left t.seg (subst Visits (sym t.owns) (round_visits c js (round_at c ks ++ []) (round_visits c ks [] tt))) x
          | inr x ↦ stores t.left js ks t.seg x.0 x.1.0 cj ck t.laid x.1.1.0 x.1.1.1 t.owns
        ]

-- ---- in the history

-- what began at p is client c's write of r
abbrev AWrite : ℕ → Bytes → Operation → Type 0
AWrite c r o = (x : Write) × (o ≡ a_write c r x)

-- it stays so through one more entry
stays_write : (c : ℕ) (r : Bytes) (p : ℕ) (y : Call) (o : Outcome) (H : History) → p < H.next → AWrite c r (H.began p) → AWrite c r ((noted y o H).began p)
stays_write c r p (sign_on d) o H l h = h
stays_write c r p (sign_off d) o H l h = h
stays_write c r p (begin_write d v) o H l h = go (is_done o)
  where
    go : (b : Bool) → AWrite c r ((begun d (a_write d v unstamped) b H).began p)
    go true = subst (AWrite c r) (sym (off_at H.began H.next p (a_write d v unstamped) (λ e. omega arith))) h
    go false = h
stays_write c r p (begin_read d k) o H l h = go (is_done o)
  where
    go : (b : Bool) → AWrite c r ((begun d (a_read d reading) b H).began p)
    go true = subst (AWrite c r) (sym (off_at H.began H.next p (a_read d reading) (λ e. omega arith))) h
    go false = h
stays_write c r p (take d i) o H l h = h
stays_write c r p (fetch d i) o H l h =
    elim (cases_eq p (H.latest d)) [
      | inl e ↦
          let z : upd H.began (H.latest d) (moved H.next o (H.began (H.latest d))) p ≡ moved H.next o (H.began p) =
          rw e (at H.began (H.latest d) (moved H.next o (H.began (H.latest d)))) in
          (write_on H.next o h.0, z ∙ ap (moved H.next o) h.1)
      | inr n ↦ (h.0, off_at H.began (H.latest d) p (moved H.next o (H.began (H.latest d))) n ∙ h.1)
    ]

-- each entry takes one place
begun_next : (c : ℕ) (o : Operation) (b : Bool) (H : History) → (begun c o b H).next ≡ suc H.next
begun_next c o true H = refl
begun_next c o false H = refl

next_up : (y : Call) (o : Outcome) (H : History) → (noted y o H).next ≡ suc H.next
next_up (sign_on d) o H = refl
next_up (sign_off d) o H = refl
next_up (begin_write d v) o H = begun_next d (a_write d v unstamped) (is_done o) H
next_up (begin_read d k) o H = begun_next d (a_read d reading) (is_done o) H
next_up (take d i) o H = refl
next_up (fetch d i) o H = refl

-- and through a list
writes_on : (C : Meaning) (c : ℕ) (r : Bytes) (p : ℕ) (ys : List Call) (σ : Segment) (H : History) → p < H.next → AWrite c r (H.began p) → AWrite c r ((history H (entries C σ ys)).began p)
writes_on C c r p [] σ H l h = h
writes_on C c r p (y ∷ ys) σ H l h =
    let z = next_up y (step C y σ).outcome H in
    writes_on C c r p ys (step C y σ).after (noted y (step C y σ).outcome H) (omega arith) (stays_write c r p y (step C y σ).outcome H l h)

-- a write that is not open has ended
over_write : (c : ℕ) (r : Bytes) (x : Write) → is_open (a_write c r x) ≡ false → Over c r (a_write c r x)
over_write c r unstamped h = absurd (let z : ◌≡◌ {A = ℕ} 0 1 = cc in omega arith)
over_write c r (stamped_as s) h = absurd (let z : ◌≡◌ {A = ℕ} 0 1 = cc in omega arith)
over_write c r (ended_as s e) h = inl (s, (e, refl))
over_write c r (failed e) h = inr (e, refl)

-- ---- an accepted begin

-- the client is laid out, and was idle
record Accepted (C : Meaning) (c : ℕ) (r : Bytes) (σ : Segment) : Type 0 where
  laid : c < σ.clients
  last : Option Bytes
  was : σ.client c ≡ idle last

accepted : (C : Meaning) (c : ℕ) (r : Bytes) (σ : Segment) → (step C (begin_write c r) σ).outcome ≡ done → Accepted C c r σ
unfolding step write_turn
accepted C c r σ h = go (ltb c σ.clients) refl (σ.client c) refl h
  where
    go : (b : Bool) → ltb c σ.clients ≡ b → (x : Client) → σ.client c ≡ x
        → (cond b (turned σ c (write_turn C r x (σ.mail c))) (record { outcome = refused 8; after = σ })).outcome ≡ done → Accepted C c r σ
    go true e (idle l) f h = record { laid = ltb-true c σ.clients e; last = l; was = f }
    go true e off f h = absurd (let z : ◌≡◌ {A = ℕ} 0 1 = cc in omega arith)
    go true e (busy l o) f h = absurd (let z : ◌≡◌ {A = ℕ} 0 1 = cc in omega arith)
    go false e x f h = absurd (let z : ◌≡◌ {A = ℕ} 0 1 = cc in omega arith)

begin_is : (C : Meaning) (c : ℕ) (r : Bytes) (σ : Segment) (l : Option Bytes) → c < σ.clients → σ.client c ≡ idle l
    → step C (begin_write c r) σ ≡ turned σ c (record { outcome = done; client = busy l (write_look r nobody no_answers); mail = posted C.n look })
unfolding step write_turn
begin_is C c r σ l h e = rw (lt-ltb c σ.clients h, e)

pub comes_to_end : (C : Meaning) → Lawful C → (σ : Segment) (H : History) → Inv C σ H → ComesToEnd C σ H
comes_to_end C L σ H I c r ys is js ks good proper ci cj ck ok w =
    let a = accepted C c r σ ok in
    let l = a.last in
    let σ' = (step C (begin_write c r) σ).after in
    let o = (step C (begin_write c r) σ).outcome in
    let H' = noted (begin_write c r) o H in
    let b = begin_is C c r σ l a.laid a.was in
    let x = busy l (write_look r nobody no_answers) in
    let n = L.nodes in
    let k = L.needed in
    let many : 1 ≤ C.n - C.f = omega arith in
    let w' : own c ys ≡ round_at c is ++ (round_at c js ++ (round_at c ks ++ [])) = w ∙ ap (λ v. round_at c is ++ (round_at c js ++ v)) (sym (no_more (round_at c ks))) in
    let idle_now = writes C c l r many ys is js ks σ' ci cj ck (subst (λ v. c < v.after.clients) (sym b) a.laid)
    (ap (λ v. v.after.client c) b ∙ at σ.client c x) (ap (λ v. v.after.mail c) b ∙ at σ.mail c (posted C.n look)) w' in
    let J = after_holds C L ys σ' H' (step_holds C L σ H I (begin_write c r) ys (good, proper)) proper in
    let E = entry C L (after C σ' ys) (history H' (entries C σ' ys)) J c (idle l) idle_now in
    let first : AWrite c r (H'.began H.next) = subst (λ v. AWrite c r ((noted (begin_write c r) v H).began H.next)) (sym ok) (unstamped, at H.began H.next (a_write c r unstamped)) in
    let p = next_up (begin_write c r) o H in
    let z = writes_on C c r H.next ys σ' H' (omega arith) first in
    let q = E.quiet H.next (ap (by c) z.1 ∙ eq-eqb c c refl) in
    subst (Over c r) (sym z.1) (over_write c r z.0 (sym (ap is_open z.1) ∙ q))
  where
    no_more : (xs : List Call) → xs ++ [] ≡ xs
    no_more [] = refl
    no_more (x ∷ xs) = ap (λ v. x ∷ v) (no_more xs)

pub progress : (C : Meaning) → Lawful C → Progress C
progress C L clients count r few good xs p =
    comes_to_end C L (after C (laid_out C clients count r) xs) (history (start count r) (entries C (laid_out C clients count r) xs)) (reached C L clients count r good xs p)
