-- A write comes to its end.
use Rattle.std.proofs.Common.{◌≡◌, ℕ, zero, suc, ◌+◌, ◌-◌, ◌<◌, ◌≤◌, Bool, true, false, cond, T, eqb, ltb, List, [], ◌∷◌, ◌++◌, length, Option, sym, refl, ap, ◌∙◌, subst, inl, inr, arith}
use Rattle.std.proofs.lemmas.Bool.{cases_eq, eqb-false, and_parts, ltb-true, lt-ltb}
use Rattle.std.proofs.lemmas.Bool.Decides.{nat_tests}
use Rattle.code.specs.Meaning.{Meaning, Chosen, all_below, rising_from, rising}
use Rattle.register.specs.Tables.{upd, bit, tally}
use Rattle.register.specs.Nodes.{Bytes, Node}
use Rattle.register.specs.Machine.{Request, Answer, Mail, empty, waiting, answered, Open, Client, busy, Segment, Call, sign_on, sign_off, begin_write, begin_read, take, fetch, refused, taken, kept, Turn, Step, nobody, no_answers, posted, on_turn, off_turn, write_turn, read_turn, served, answer, visit, closes, open_turn, fetched, fetch_turn, turned, visited, step}
use Rattle.register.specs.History.{after}
use Rattle.register.specs.Progress.{caller, own, round_at}
use Rattle.register.proofs.Changes.{at, off_at}

-- ---- counting

tally_before : (got : ℕ → Bool) (i a l : ℕ) → i < a → tally (upd got i true) a l ≡ tally got a l
unfolding tally
tally_before got i a zero h = refl
tally_before got i a (suc l) h =
    let z = tally_before got i (suc a) l (omega arith) in
    let e = ap bit (off_at got i a true (λ x. omega arith)) in
    omega arith

-- one more is fetched
tally_more : (got : ℕ → Bool) (i a l : ℕ) → a ≤ i → i < a + l → got i ≡ false → tally (upd got i true) a l ≡ suc (tally got a l)
unfolding tally
tally_more got i a zero h k e = absurd (omega arith)
tally_more got i a (suc l) h k e =
    elim (cases_eq a i) [
      | inl q ↦
          let z = tally_before got i (suc a) l (omega arith) in
          let u = ap bit (ap (upd got i true) q ∙ at got i true) in
          let v = ap bit (ap got q ∙ e) in
          omega arith
      | inr n ↦
          let z = tally_more got i (suc a) l (omega arith) (omega arith) e in
          let u = ap bit (off_at got i a true n) in
          omega arith
    ]

tally_none : (a l : ℕ) → tally nobody a l ≡ 0
unfolding tally
tally_none a zero = refl
tally_none a (suc l) = let z = tally_none (suc a) l in omega arith

-- ---- rising numbers

-- numbers from lo on, rising, below n
abbrev Rising : ℕ → ℕ → List ℕ → Type 0
Rising lo n [] = Unit {0}
Rising lo n (i ∷ is) = (lo ≤ i) × (i < n) × Rising (suc i) n is

true_of : (b : Bool) → T b → b ≡ true
true_of true t = refl
true_of false t = absurd t

rises_from : (i n : ℕ) (is : List ℕ) → rising_from i is ≡ true → all_below n is ≡ true → Rising (suc i) n is
rises_from i n [] h k = tt
rises_from i n (j ∷ js) h k =
    let a = and_parts (ltb i j) (rising_from j js) h in
    let b = and_parts (ltb j n) (all_below n js) k in
    let l = ltb-true i j a.0 in
    (omega arith, ltb-true j n b.0, rises_from j n js a.1 b.1)

rises : (n : ℕ) (is : List ℕ) → rising is ≡ true → all_below n is ≡ true → Rising 0 n is
rises n [] h k = tt
rises n (i ∷ is) h k = let b = and_parts (ltb i n) (all_below n is) k in (omega arith, ltb-true i n b.0, rises_from i n is h b.1)

chosen_rises : (k n : ℕ) (is : List ℕ) → Chosen k n is → Rising 0 n is
chosen_rises k n is c = rises n is (true_of (rising is) c.rise) (true_of (all_below n is) c.below)

-- ---- what others do

-- client c's entry and mailboxes are the same in both
pub record SameClient (c : ℕ) (σ τ : Segment) : Type 0 where
  pub clients : τ.clients ≡ σ.clients
  pub client : τ.client c ≡ σ.client c
  pub mail : τ.mail c ≡ σ.mail c

module _ (C : Meaning) (c : ℕ) where
  itself : (σ : Segment) → SameClient c σ σ
  itself σ = record { clients = refl; client = refl; mail = refl }

  other_turn : (σ : Segment) (d : ℕ) (t : Turn) → (c ≡ d → ⊥) → SameClient c σ (turned σ d t).after
  other_turn σ d t n = record { clients = refl; client = off_at σ.client d c t.client n; mail = off_at σ.mail d c t.mail n }

  checked : (σ : Segment) (b : Bool) (e : ℕ) (d : Step) → SameClient c σ d.after → SameClient c σ (cond b d (record { outcome = refused e; after = σ })).after
  checked σ true e d h = h
  checked σ false e d h = itself σ

  pub others : (σ : Segment) (x : Call) → (c ≡ caller x → ⊥) → SameClient c σ (step C x σ).after
  unfolding step
  others σ (sign_on d) n = checked σ (ltb d σ.clients) 8 _ (other_turn σ d (on_turn (σ.client d) (σ.mail d)) n)
  others σ (sign_off d) n = checked σ (ltb d σ.clients) 8 _ (other_turn σ d (off_turn (σ.client d) (σ.mail d)) n)
  others σ (begin_write d r) n = checked σ (ltb d σ.clients) 8 _ (other_turn σ d (write_turn C r (σ.client d) (σ.mail d)) n)
  others σ (begin_read d k) n = checked σ (ltb d σ.clients) 8 _ (other_turn σ d (read_turn C k (σ.client d) (σ.mail d)) n)
  others σ (take d i) n =
      let v = visit C i (σ.node i) (σ.mail d i) in
      checked σ (ltb d σ.clients) 8 _
      (checked σ (ltb i C.n) 9 _ (record { clients = refl; client = refl; mail = off_at σ.mail d c (upd (σ.mail d) i v.mail) n }))
  others σ (fetch d i) n = checked σ (ltb d σ.clients) 8 _ (checked σ (ltb i C.n) 9 _ (other_turn σ d (fetch_turn C d i (σ.client d) (σ.mail d)) n))

  -- ---- a client's own take and fetch

  take_is : (σ : Segment) (i : ℕ) (q : Request) → c < σ.clients → i < C.n → σ.mail c i ≡ waiting q
      → step C (take c i) σ ≡ visited σ c i (record { outcome = taken q; node = served C i q (σ.node i); mail = answered (answer q (σ.node i)) })
  unfolding step visit
  take_is σ i q h k e = rw (lt-ltb c σ.clients h, lt-ltb i C.n k, e)

  fetch_is : (σ : Segment) (i : ℕ) (l : Option Bytes) (o : Open) (x : Answer) → c < σ.clients → i < C.n → σ.client c ≡ busy l o → σ.mail c i ≡ answered x
      → step C (fetch c i) σ ≡ turned σ c (open_turn C c i (σ.mail c) l o x)
  unfolding step fetch_turn
  fetch_is σ i l o x h k e d = rw (lt-ltb c σ.clients h, lt-ltb i C.n k, e, d)

  -- ---- one round

  -- what is left of a list after a round: the segment then, the calls left, and what P says of the client
  pub record Rest (P : Client → (ℕ → Mail) → Type 0) (rest : List Call) (σ : Segment) (ys : List Call) : Type 0 where
    pub seg : Segment
    pub left : List Call
    pub goes_on : after C σ ys ≡ after C seg left
    pub owns : own c left ≡ rest
    pub laid : c < seg.clients
    pub ends : P (seg.client c) (seg.mail c)

  module _ (l : Option Bytes) (q : Request) (op : (ℕ → Bool) → (ℕ → Node) → Open) (close : ℕ → (ℕ → Mail) → (ℕ → Bool) → (ℕ → Node) → Turn)
      (turn : (i : ℕ) (mail : ℕ → Mail) (got : ℕ → Bool) (ans : ℕ → Node) (a : Node)
      → (ans' : ℕ → Node) × (open_turn C c i mail l (op got ans) (answer q a) ≡ cond (closes C (upd got i true)) (close i mail (upd got i true) ans') (fetched C c i mail l kept (busy l (op (upd got i true) ans')))))
      (P : Client → (ℕ → Mail) → Type 0) (ends : (i : ℕ) (mail : ℕ → Mail) (got : ℕ → Bool) (ans : ℕ → Node) → P (close i mail got ans).client (close i mail got ans).mail) where
    -- the round goes on: k more nodes are to be fetched, and from lo on all requests wait
    record Going (k lo : ℕ) (σ : Segment) : Type 0 where
      laid : c < σ.clients
      got : ℕ → Bool
      ans : ℕ → Node
      client : σ.client c ≡ busy l (op got ans)
      waits : (j : ℕ) → lo ≤ j → j < C.n → σ.mail c j ≡ waiting q
      new : (j : ℕ) → lo ≤ j → got j ≡ false
      count : tally got 0 C.n + k ≡ C.n - C.f

    -- and the answer of node i lies there
    record Answering (k i : ℕ) (σ : Segment) : Type 0 where
      laid : c < σ.clients
      got : ℕ → Bool
      ans : ℕ → Node
      client : σ.client c ≡ busy l (op got ans)
      node : Node
      said : σ.mail c i ≡ answered (answer q node)
      waits : (j : ℕ) → suc i ≤ j → j < C.n → σ.mail c j ≡ waiting q
      new : (j : ℕ) → i ≤ j → got j ≡ false
      count : tally got 0 C.n + suc k ≡ C.n - C.f

    going_on : (k lo : ℕ) (σ τ : Segment) → SameClient c σ τ → Going k lo σ → Going k lo τ
    going_on k lo σ τ s h = record {
      laid = rw s.clients h.laid;
      got = h.got;
      ans = h.ans;
      client = s.client ∙ h.client;
      waits = λ j a b. ap (λ v. v j) s.mail ∙ h.waits j a b;
      new = h.new;
      count = h.count;
    }

    answering_on : (k i : ℕ) (σ τ : Segment) → SameClient c σ τ → Answering k i σ → Answering k i τ
    answering_on k i σ τ s h = record {
      laid = rw s.clients h.laid;
      got = h.got;
      ans = h.ans;
      client = s.client ∙ h.client;
      node = h.node;
      said = ap (λ v. v i) s.mail ∙ h.said;
      waits = λ j a b. ap (λ v. v j) s.mail ∙ h.waits j a b;
      new = h.new;
      count = h.count;
    }

    taking : (k lo i : ℕ) (σ : Segment) → lo ≤ i → i < C.n → Going (suc k) lo σ → Answering k i (step C (take c i) σ).after
    taking k lo i σ a b h =
        let e = take_is σ i q h.laid b (h.waits i a b) in
        let x = answered (answer q (σ.node i)) in
        subst (λ v. Answering k i v.after) (sym e) (record {
          laid = h.laid;
          got = h.got;
          ans = h.ans;
          client = h.client;
          node = σ.node i;
          said = ap (λ v. v i) (at σ.mail c (upd (σ.mail c) i x)) ∙ at (σ.mail c) i x;
          waits = λ j u v. ap (λ w. w j) (at σ.mail c (upd (σ.mail c) i x)) ∙ (off_at (σ.mail c) i j x (λ z. omega arith) ∙ h.waits j (omega arith) v);
          new = λ j u. h.new j (omega arith);
          count = h.count;
        })

    -- a fetch that does not close the round
    keeping : (k i : ℕ) (σ : Segment) → i < C.n → Answering (suc k) i σ → Going (suc k) (suc i) (step C (fetch c i) σ).after
    keeping k i σ b h =
        let e = fetch_is σ i l (op h.got h.ans) (answer q h.node) h.laid b h.client h.said in
        let t = turn i (σ.mail c) h.got h.ans h.node in
        let more = tally_more h.got i 0 C.n (omega arith) (omega arith) (h.new i (omega arith)) in
        let n = h.count in
        let gap : closes C (upd h.got i true) ≡ false = grind (arith, nat_tests) in
        let f : open_turn C c i (σ.mail c) l (op h.got h.ans) (answer q h.node) ≡ fetched C c i (σ.mail c) l kept (busy l (op (upd h.got i true) t.0)) =
        t.1 ∙ ap (λ v. cond v (close i (σ.mail c) (upd h.got i true) t.0) (fetched C c i (σ.mail c) l kept (busy l (op (upd h.got i true) t.0)))) gap in
        subst (λ v. Going (suc k) (suc i) v.after) (sym (e ∙ ap (turned σ c) f)) (record {
          laid = h.laid;
          got = upd h.got i true;
          ans = t.0;
          client = at σ.client c (busy l (op (upd h.got i true) t.0));
          waits = λ j u v. ap (λ w. w j) (at σ.mail c (upd (σ.mail c) i empty)) ∙ (off_at (σ.mail c) i j empty (λ z. omega arith) ∙ h.waits j u v);
          new = λ j u. off_at h.got i j true (λ z. omega arith) ∙ h.new j (omega arith);
          count = omega arith;
        })

    -- the fetch that closes it
    closing : (i : ℕ) (σ : Segment) → i < C.n → Answering 0 i σ
        → (c < (step C (fetch c i) σ).after.clients) × P ((step C (fetch c i) σ).after.client c) ((step C (fetch c i) σ).after.mail c)
    closing i σ b h =
        let e = fetch_is σ i l (op h.got h.ans) (answer q h.node) h.laid b h.client h.said in
        let t = turn i (σ.mail c) h.got h.ans h.node in
        let more = tally_more h.got i 0 C.n (omega arith) (omega arith) (h.new i (omega arith)) in
        let n = h.count in
        let shut : closes C (upd h.got i true) ≡ true = grind (arith, nat_tests) in
        let d = close i (σ.mail c) (upd h.got i true) t.0 in
        let f : open_turn C c i (σ.mail c) l (op h.got h.ans) (answer q h.node) ≡ d =
        t.1 ∙ ap (λ v. cond v d (fetched C c i (σ.mail c) l kept (busy l (op (upd h.got i true) t.0)))) shut in
        subst (λ v. (c < v.after.clients) × P (v.after.client c) (v.after.mail c)) (sym (e ∙ ap (turned σ c) f)) (
          h.laid,
          subst (λ x. P x (upd σ.mail c d.mail c)) (sym (at σ.client c d.client))
              (subst (P d.client) (sym (at σ.mail c d.mail)) (ends i (σ.mail c) (upd h.got i true) t.0)),
        )

    -- where the round stands: before the take at node i, or before the fetch there, with the nodes js to come
    abbrev Stage : Bool → ℕ → List ℕ → Segment → Type 0
    Stage false i js σ = (lo : ℕ) × Going (suc (length js)) lo σ × (lo ≤ i) × (i < C.n) × Rising (suc i) C.n js
    Stage true i js σ = Answering (length js) i σ × (i < C.n) × Rising (suc i) C.n js

    -- the client's calls from there on
    abbrev calls_from : Bool → ℕ → List ℕ → List Call → List Call
    calls_from false i js rest = take c i ∷ fetch c i ∷ (round_at c js ++ rest)
    calls_from true i js rest = fetch c i ∷ (round_at c js ++ rest)

    stage_on : (b : Bool) (i : ℕ) (js : List ℕ) (σ τ : Segment) → SameClient c σ τ → Stage b i js σ → Stage b i js τ
    stage_on false i js σ τ s h = (h.0, going_on (suc (length js)) h.0 σ τ s h.1, h.2, h.3, h.4)
    stage_on true i js σ τ s h = (answering_on (length js) i σ τ s h.0, h.1, h.2)

    one_on : (rest : List Call) (σ : Segment) (y : Call) (ys : List Call) → Rest P rest (step C y σ).after ys → Rest P rest σ (y ∷ ys)
    one_on rest σ y ys r = record { seg = r.seg; left = r.left; goes_on = r.goes_on; owns = r.owns; laid = r.laid; ends = r.ends }

    no_calls : (b : Bool) (i : ℕ) (js : List ℕ) (rest : List Call) → [] ≡ calls_from b i js rest → ⊥
    no_calls true i js rest e = let z : ◌≡◌ {A = ℕ} 0 1 = cc in omega arith
    no_calls false i js rest e = let z : ◌≡◌ {A = ℕ} 0 1 = cc in omega arith

    own_call : (b : Bool) (i : ℕ) (js : List ℕ) (rest : List Call) (σ : Segment) (y : Call) (ys : List Call) → Stage b i js σ → y ∷ own c ys ≡ calls_from b i js rest
        → ((τ : Segment) (b : Bool) (i : ℕ) (js : List ℕ) → Stage b i js τ → own c ys ≡ calls_from b i js rest → Rest P rest τ ys) → Rest P rest (step C y σ).after ys
    own_call false i js rest σ y ys h e rec =
        let z : y ≡ take c i = cc in
        let w : own c ys ≡ fetch c i ∷ (round_at c js ++ rest) = cc in
        rw z (rec (step C (take c i) σ).after true i js (taking (length js) h.0 i σ h.2 h.3 h.1, h.3, h.4) w)
    own_call true i [] rest σ y ys h e rec =
        let z : y ≡ fetch c i = cc in
        let w : own c ys ≡ rest = cc in
        let d = closing i σ h.1 h.0 in
        rw z (record { seg = (step C (fetch c i) σ).after; left = ys; goes_on = refl; owns = w; laid = d.0; ends = d.1 })
    own_call true i (j ∷ js) rest σ y ys h e rec =
        let z : y ≡ fetch c i = cc in
        let w : own c ys ≡ take c j ∷ fetch c j ∷ (round_at c js ++ rest) = cc in
        rw z (rec (step C (fetch c i) σ).after false j js (suc i, keeping (length js) i σ h.1 h.0, h.2.0, h.2.1, h.2.2) w)

    -- through the list, with other clients' calls between
    run : (ys : List Call) (rest : List Call) (σ : Segment) (b : Bool) (i : ℕ) (js : List ℕ) → Stage b i js σ → own c ys ≡ calls_from b i js rest → Rest P rest σ ys
    run [] rest σ b i js h e = absurd (no_calls b i js rest e)
    run (y ∷ ys) rest σ b i js h e = one_on rest σ y ys (go (eqb (caller y) c) refl e (λ τ b i js h e. run ys rest τ b i js h e))
      where
        go : (t : Bool) → eqb (caller y) c ≡ t → cond t (y ∷ own c ys) (own c ys) ≡ calls_from b i js rest
            → ((τ : Segment) (b : Bool) (i : ℕ) (js : List ℕ) → Stage b i js τ → own c ys ≡ calls_from b i js rest → Rest P rest τ ys) → Rest P rest (step C y σ).after ys
        go true t e rec = own_call b i js rest σ y ys h e rec
        go false t e rec = rec (step C y σ).after b i js (stage_on b i js σ (step C y σ).after (others σ y (λ z. eqb-false (caller y) c t (sym z))) h) e

    -- a whole round
    pub round_holds : (ys : List Call) (rest : List Call) (is : List ℕ) (σ : Segment) → 1 ≤ C.n - C.f → Chosen (C.n - C.f) C.n is
        → c < σ.clients → σ.client c ≡ busy l (op nobody no_answers) → σ.mail c ≡ posted C.n q → own c ys ≡ round_at c is ++ rest → Rest P rest σ ys
    round_holds ys rest [] σ many ch laid e d w = absurd (let z = ch.count in omega arith)
    round_holds ys rest (i ∷ is) σ many ch laid e d w =
        let up = chosen_rises (C.n - C.f) C.n (i ∷ is) ch in
        let n = ch.count in
        let z = tally_none 0 C.n in
        run ys rest σ false i is (
          0,
          record {
            laid = laid;
            got = nobody;
            ans = no_answers;
            client = e;
            waits = λ j u v. ap (λ m. m j) d ∙ (rw (lt-ltb j C.n v));
            new = λ j u. refl;
            count = omega arith;
          },
          omega arith,
          up.1,
          up.2,
        ) w
