-- A fetch keeps the invariant: one more answer, or the close of a round.
use Rattle.std.proofs.Common.{◌≡◌, ℕ, zero, suc, ◌+◌, ◌-◌, ◌<◌, ◌≤◌, max, Bool, true, false, cond, ◌&&◌, ltb, leb, List, [], ◌∷◌, Some as some, Option, sym, refl, ap, ◌∙◌, subst, inl, inr, arith}
use Rattle.std.proofs.lemmas.Bool.{cases_eq, cases_lt, eqb-true, eq-eqb, lt-ltb, and_parts, and_from}
use Rattle.code.specs.Meaning.{Meaning, Lawful}
use Rattle.register.specs.Tables.{upd, tally}
use Rattle.register.specs.Stamps.{Stamp, lowest, Earlier, NoLater}
use Rattle.register.specs.Nodes.{Bytes, Node}
use Rattle.register.specs.Reading.{Rebuilt, rebuild, top_floor, top_count, list_count, node_stamps}
use Rattle.register.specs.Machine.{posted, look, storing, settling, looked, stored, settled, Mail, empty, waiting, answered, write_look, write_store, write_settle, read_look, idle, busy, Segment, nobody, no_answers}
use Rattle.register.specs.History.{passed, Write, unstamped, stamped_as, ended_as, failed, Read, gave, gave_up, Operation, a_write, a_read, History, stamp_of, Ended, Gave, open_after}
use Rattle.register.specs.Promises.{ARecord}
use Rattle.register.proofs.Order.{reaches, not_below, is_reached, le_le, le_lt, clash, counted}
use Rattle.register.proofs.Posted.{posted_ask, posted_says}
use Rattle.register.proofs.Counting.{meet, more, one}
use Rattle.register.proofs.NodeLaws.{keeps}
use Rattle.register.proofs.Readable.{Every, none_some, top_over}
use Rattle.register.proofs.Invariant.{by, is_open, Later, AFloor, Quiet, Others, Stored, Settles, LookOk, WriteLook, ReadLook, StoreOk, SettleOk, Established, Settled, Inv, floor_later, settles_later}
use Rattle.register.proofs.Conclude.{top_floor_is, rebuilt_from}
use Rattle.register.proofs.Changes.{with_client, with_operation, at, off_at, upd_case, grown_same, Fresh, NewRead, Change, changed, same_ops, all_later}
use Rattle.register.proofs.Clients.{look_more, nil_stores, nil_settles, nil_unheld, look_unheld, settle_unheld, fetched_more}
use Rattle.register.proofs.Crowd.{Not, every_map}
use Rattle.register.proofs.Lean.{HeldOk}

-- ---- the highest count

top_of : (m : ℕ) (ss : List Stamp) → m ≤ list_count m ss
unfolding list_count
top_of m [] = omega arith
top_of m (s ∷ ss) = let h = top_of (max m s.count) ss in omega arith

count_over : (Q : ℕ → Bool) (a : ℕ → Node) (i l j : ℕ) → i ≤ j → j < i + l → Q j ≡ true → (a j).floor.count ≤ top_count Q a i l
unfolding top_count
count_over Q a i zero j h₁ h₂ q = absurd (omega arith)
count_over Q a i (suc l) j h₁ h₂ q =
    elim (cases_eq i j) [
      | inl e ↦
          let k : (a i).floor.count ≤ cond (Q i) (list_count (a i).floor.count (node_stamps (a i))) 0 = rw (rw (← e) at q) (top_of (a i).floor.count (node_stamps (a i))) in
          rw (← e) (omega arith)
      | inr n ↦ let k = count_over Q a (suc i) l j (omega arith) (omega arith) q in omega arith
    ]

abbrev client_of : Stamp → ℕ
client_of s = s.client

module _ (C : Meaning) (L : Lawful C) (σ : Segment) (H : History) (I : Inv C σ H) (c : ℕ) where
  -- what ended before the begin is not above the highest floor of a closed Look round
  look_past : (m : ℕ → Mail) (got : ℕ → Bool) (ans : ℕ → Node) (p : ℕ) → LookOk C H.began σ.node m p got ans → C.n - C.f ≤ tally got 0 C.n
      → (q : ℕ) (s : Stamp) (e : ℕ) → Ended (H.began q) s e → e < p → NoLater s (top_floor got ans lowest 0 C.n)
  look_past m got ans p h full q s e x l =
      let k = h.past q s e x l in
      let sp = L.needed in
      let nn = L.nodes in
      let mt = meet got (λ i. reaches s (h.base i)) 0 C.n in
      let j = one (λ i. got i && reaches s (h.base i)) 0 C.n (omega arith) in
      let b = and_parts (got j.0) (reaches s (h.base j.0)) j.3 in
      let o = top_over got ans lowest 0 C.n j.0 j.1 j.2 b.0 in
      let u = not_below s (h.base j.0) b.1 in
      let v = (h.gathered j.0 (omega arith) b.0).0 in
      le_le s (h.base j.0) (top_floor got ans lowest 0 C.n) u (le_le (h.base j.0) (ans j.0).floor (top_floor got ans lowest 0 C.n) v o)

  quiet_after : (o : Operation) → is_open o ≡ false → Others H.began (H.latest c) c → Quiet (upd H.began (H.latest c) o) c
  quiet_after o k h q b =
      elim (cases_eq q (H.latest c)) [
        | inl e ↦ let z : upd H.began (H.latest c) o q ≡ o = rw e (at H.began (H.latest c) o) in ap is_open z ∙ k
        | inr n ↦ let z = off_at H.began (H.latest c) q o n in rw z (h q (rw z at b) n)
      ]

  others_after : (o : Operation) → Others H.began (H.latest c) c → Others (upd H.began (H.latest c) o) (H.latest c) c
  others_after o h q b n = let z = off_at H.began (H.latest c) q o n in rw z (h q (rw z at b) n)

  -- the Settle requests that are left
  settles_after : (o : Operation) → Change C σ H c (H.latest c) o → (i : ℕ) → Settles C (upd H.began (H.latest c) o) σ.node (upd (σ.mail c) i empty)
  settles_after o ch i =
      nil_settles (σ.mail c) i (AFloor C (upd H.began (H.latest c) o) σ.node)
      (settles_later C H.began (upd H.began (H.latest c) o) σ.node σ.node (all_later C σ H I c (H.latest c) o ch) (λ j. grown_same (σ.node j)) (σ.mail c) (I.settles c))

  -- the changes of an operation
  module _ (r : Bytes) (g g' : Write) (op : H.began (H.latest c) ≡ a_write c r g) where
    write_later : Later (a_write c r g) (a_write c r g') → Later (H.began (H.latest c)) (a_write c r g')
    write_later h = rw op h

    write_was : (d : ℕ) → by d (H.began (H.latest c)) ≡ true → d ≡ c
    write_was d h = sym (eqb-true c d (sym (ap (by d) op) ∙ h))

    write_good : (d : ℕ) (r' : Bytes) (x : Write) → a_write c r g' ≡ a_write d r' x → ARecord r'
    write_good d r' x h = let z : r ≡ r' = cc in rw (← z) (I.records (H.latest c) c r g op)

    write_reads : (x : Rebuilt) (e : ℕ) → Gave (a_write c r g') x e → (e ≡ H.next) × NewRead C H.began (H.latest c) x
    write_reads x e h = absurd (let z : ◌≡◌ {A = ℕ} 0 1 = let y = h.1 in cc in omega arith)

  -- ---- a write's Look round

  module _ (l : Option Bytes) (i : ℕ) (r : Bytes) (got : ℕ → Bool) (ans : ℕ → Node) (a : Node) (said : σ.mail c i ≡ answered (looked a))
      (h : WriteLook C H.began σ.node (σ.mail c) (H.latest c) c r got ans) where
    got_look : LookOk C H.began σ.node (upd (σ.mail c) i empty) (H.latest c) (upd got i true) (upd ans i a)
    got_look = look_more C H.began σ.node (σ.mail c) (H.latest c) c i got ans a said h.looks

    pub look_kept : Inv C (with_client σ c (upd (σ.mail c) i empty) (busy l (write_look r (upd got i true) (upd ans i a)))) (passed H)
    look_kept =
        same_ops C σ H I c (upd (σ.mail c) i empty) (busy l (write_look r (upd got i true) (upd ans i a)))
        (record { op = h.op; looks = got_look; stores = nil_stores (σ.mail c) i h.stores; others = h.others; mine = h.mine })
        (nil_settles (σ.mail c) i (AFloor C H.began σ.node) (I.settles c)) (nil_unheld C σ.node (σ.mail c) i (I.unheld c))

    failed_change : Change C σ H c (H.latest c) (a_write c r (failed H.next))
    failed_change = record {
      place = let z = I.latest c in omega arith;
      later = write_later r unstamped (failed H.next) h.op (record { stamp = λ s e. none_some e; bytes = λ s e. refl });
      mine = λ d e. sym (eqb-true c d e);
      was = write_was r unstamped (failed H.next) h.op;
      begun = λ e. absurd (let z : ◌≡◌ {A = ℕ} 0 1 = let y = sym h.op ∙ e in cc in omega arith);
      opens = λ t x y. let z = sym (ap (open_after t (H.latest c)) h.op) ∙ y in and_from (leb (H.latest c) t) (ltb t H.next) z (lt-ltb t H.next x);
      ends = λ s e x. absurd (let z : ◌≡◌ {A = ℕ} 0 1 = let y = x.1.1 in cc in omega arith);
      owns = λ s e. none_some e;
      good = write_good r unstamped (failed H.next) h.op;
      stamps = λ s e. none_some e;
      reads = write_reads r unstamped (failed H.next) h.op;
    }

    pub look_failed : Inv C (with_client σ c (upd (σ.mail c) i empty) (idle l)) (with_operation H c (H.latest c) (a_write c r (failed H.next)))
    look_failed =
        let o = a_write c r (failed H.next) in
        changed C σ H I c (H.latest c) o failed_change (upd (σ.mail c) i empty) (idle l)
        (record { stores = nil_stores (σ.mail c) i h.stores; quiet = quiet_after o refl h.others })
        (settles_after o failed_change i) (nil_unheld C σ.node (σ.mail c) i (I.unheld c))

    module _ (full : C.n - C.f ≤ tally (upd got i true) 0 C.n) (s F : Stamp)
        (eF : F ≡ top_floor (upd got i true) (upd ans i a) lowest 0 C.n) (es : s ≡ record { count = top_count (upd got i true) (upd ans i a) 0 C.n + 1; client = c }) where
      stamp_floor : AFloor C H.began σ.node F × (F.count < s.count)
      stamp_floor =
          let sp = L.needed in
          let nn = L.nodes in
          let got' = upd got i true in
          let ans' = upd ans i a in
          rw (eF, es) (top_floor_is (λ f. AFloor C H.began σ.node f × (f.count < top_count got' ans' 0 C.n + 1)) got' ans' C.n (omega arith)
          (λ j u v. ((got_look.gathered j u v).1.base, (let k = count_over got' ans' 0 C.n j (omega arith) (omega arith) v in omega arith))))

      stamp_less : Earlier F s
      stamp_less = counted F s stamp_floor.1

      stamp_past : (q : ℕ) (t : Stamp) (e : ℕ) → Ended (H.began q) t e → e < H.latest c → NoLater t F
      stamp_past q t e x y = rw eF (look_past (upd (σ.mail c) i empty) (upd got i true) (upd ans i a) (H.latest c) got_look full q t e x y)

      stamp_fresh : Fresh C H.began (H.latest c) s
      stamp_fresh = record {
        apart = λ q n x.
            let o = I.owner q s x in
            let k = ap client_of es in
            let m = h.mine q s (rw k at o) n x in
            clash F s stamp_less (stamp_past q s m.0 m.1 m.2);
        late = λ q t e x y. le_lt t F s (stamp_past q t e x y) stamp_less;
      }

      stamped_change : Change C σ H c (H.latest c) (a_write c r (stamped_as s))
      stamped_change = record {
        place = let z = I.latest c in omega arith;
        later = write_later r unstamped (stamped_as s) h.op (record { stamp = λ s e. none_some e; bytes = λ s e. refl });
        mine = λ d e. sym (eqb-true c d e);
        was = write_was r unstamped (stamped_as s) h.op;
        begun = λ e. absurd (let z : ◌≡◌ {A = ℕ} 0 1 = let y = sym h.op ∙ e in cc in omega arith);
        opens = λ t x y. sym (ap (open_after t (H.latest c)) h.op) ∙ y;
        ends = λ s e x. absurd (let z : ◌≡◌ {A = ℕ} 0 1 = let y = x.1.1 in cc in omega arith);
        owns = λ t e.
            let z : s ≡ t = cc in
            let k : t.client ≡ c = ap client_of (sym z ∙ es) in
            eq-eqb c t.client (sym k);
        good = write_good r unstamped (stamped_as s) h.op;
        stamps = λ t e. let z : s ≡ t = cc in inr (subst (Fresh C H.began (H.latest c)) z stamp_fresh);
        reads = write_reads r unstamped (stamped_as s) h.op;
      }

      pub look_stamped : Inv C (with_client σ c (posted C.n (storing s F r)) (busy l (write_store r s F nobody))) (with_operation H c (H.latest c) (a_write c r (stamped_as s)))
      look_stamped =
          let o = a_write c r (stamped_as s) in
          let f = stamp_floor.0 in
          changed C σ H I c (H.latest c) o stamped_change (posted C.n (storing s F r)) (busy l (write_store r s F nobody))
          (record {
            op = at H.began (H.latest c) o;
            floor = floor_later C H.began (upd H.began (H.latest c) o) σ.node σ.node (all_later C σ H I c (H.latest c) o stamped_change) (λ j. grown_same (σ.node j)) F f;
            less = stamp_less;
            past = λ q t e x y.
                elim (upd_case (λ v. Ended v t e) H.began (H.latest c) o q x) [
                  | inl u ↦ absurd (let z : ◌≡◌ {A = ℕ} 0 1 = let y = u.1.1.1 in cc in omega arith)
                  | inr u ↦ stamp_past q t e u.1 y
                ];
            gathered = λ j e. absurd (let z : ◌≡◌ {A = ℕ} 0 1 = cc in omega arith);
            mailed = λ j e. absurd (posted_says C.n j (storing s F r) stored e);
            asked = λ j s' F' r' e. let y = posted_ask C.n j (storing s F r) (storing s' F' r') e in (cc, cc, cc);
            others = others_after o h.others;
          })
          (λ j t e. absurd (let y = posted_ask C.n j (storing s F r) (settling t) e in let z : ◌≡◌ {A = ℕ} 0 1 = cc in omega arith)) (λ j t G v y e. let x = posted_ask C.n j (storing s F r) (storing t G v) e in let z : s ≡ t = cc in
          subst (λ t. Every (Not t) (node_stamps (σ.node j))) z (every_map (HeldOk H.began (σ.node j).floor) (Not s)
          (λ u x k.
          elim (cases_eq x.0 (H.latest c)) [
            | inl m ↦ none_some (sym (ap stamp_of h.op) ∙ sym (ap (λ v. stamp_of (H.began v)) m) ∙ x.1)
            | inr m ↦ stamp_fresh.apart x.0 m (x.1 ∙ ap some k)
          ]) (node_stamps (σ.node j)) (I.lean j y).held))

  -- ---- a write's Store round

  module _ (l : Option Bytes) (i : ℕ) (r : Bytes) (s F : Stamp) (got : ℕ → Bool) (said : σ.mail c i ≡ answered stored)
      (h : StoreOk C H.began σ.node (σ.mail c) (H.latest c) c r s F got) where
    store_got : (j : ℕ) → upd got i true j ≡ true → Stored C σ.node s j
    store_got = fetched_more got i (Stored C σ.node s) (h.mailed i said) h.gathered

    pub store_kept : Inv C (with_client σ c (upd (σ.mail c) i empty) (busy l (write_store r s F (upd got i true)))) (passed H)
    store_kept =
        same_ops C σ H I c (upd (σ.mail c) i empty) (busy l (write_store r s F (upd got i true)))
        (record {
          op = h.op;
          floor = h.floor;
          less = h.less;
          past = h.past;
          gathered = store_got;
          mailed = λ j e. elim (upd_case (λ v. v ≡ answered stored) (σ.mail c) i empty j e) [ inl u ↦ absurd (let y = u.1 in let z : ◌≡◌ {A = ℕ} 0 1 = cc in omega arith) | inr u ↦ h.mailed j u.1 ];
          asked = λ j s' F' r' e. elim (upd_case (λ v. v ≡ waiting (storing s' F' r')) (σ.mail c) i empty j e) [ inl u ↦ absurd (let y = u.1 in let z : ◌≡◌ {A = ℕ} 0 1 = cc in omega arith) | inr u ↦ h.asked j s' F' r' u.1 ];
          others = h.others;
        })
        (nil_settles (σ.mail c) i (AFloor C H.began σ.node) (I.settles c)) (nil_unheld C σ.node (σ.mail c) i (I.unheld c))

    module _ (full : C.n - C.f ≤ tally (upd got i true) 0 C.n) where
      all_stored : Established C σ.node s
      all_stored =
          elim (cases_lt (tally (λ j. keeps s (σ.node j)) 0 C.n) (C.n - C.f)) [
            | inl few ↦
                (let m = more (upd got i true) (λ j. keeps s (σ.node j)) 0 C.n (λ j u v x. elim (store_got j x) [ inl k ↦ k | inr k ↦ absurd (omega arith) ]) in
                omega arith)
            | inr many ↦ many
          ]

      pub store_closed : Inv C (with_client σ c (posted C.n (settling s)) (busy l (write_settle r s nobody))) (passed H)
      store_closed =
          same_ops C σ H I c (posted C.n (settling s)) (busy l (write_settle r s nobody))
          (record {
            op = h.op;
            gathered = λ j e. absurd (let z : ◌≡◌ {A = ℕ} 0 1 = cc in omega arith);
            mailed = λ j e. absurd (posted_says C.n j (settling s) settled e);
            asked = λ j s' e. let y = posted_ask C.n j (settling s) (settling s') e in cc;
            stores = λ j s' F' r' e. let y = posted_ask C.n j (settling s) (storing s' F' r') e in let z : ◌≡◌ {A = ℕ} 0 1 = cc in omega arith;
            others = h.others;
          })
          (λ j t e. let y = posted_ask C.n j (settling s) (settling t) e in let z : s ≡ t = cc in (H.latest c, ap stamp_of h.op ∙ ap some z, subst (Established C σ.node) z all_stored))
          (settle_unheld C σ.node s)

  -- ---- a write's Settle round

  module _ (l : Option Bytes) (i : ℕ) (r : Bytes) (s : Stamp) (got : ℕ → Bool) (said : σ.mail c i ≡ answered settled)
      (h : SettleOk C H.began σ.node (σ.mail c) (H.latest c) c r s got) where
    settle_got : (j : ℕ) → upd got i true j ≡ true → NoLater s (σ.node j).floor
    settle_got = fetched_more got i (λ j. NoLater s (σ.node j).floor) (h.mailed i said) h.gathered

    pub settle_kept : Inv C (with_client σ c (upd (σ.mail c) i empty) (busy l (write_settle r s (upd got i true)))) (passed H)
    settle_kept =
        same_ops C σ H I c (upd (σ.mail c) i empty) (busy l (write_settle r s (upd got i true)))
        (record {
          op = h.op;
          gathered = settle_got;
          mailed = λ j e. elim (upd_case (λ v. v ≡ answered settled) (σ.mail c) i empty j e) [ inl u ↦ absurd (let y = u.1 in let z : ◌≡◌ {A = ℕ} 0 1 = cc in omega arith) | inr u ↦ h.mailed j u.1 ];
          asked = λ j s' e. elim (upd_case (λ v. v ≡ waiting (settling s')) (σ.mail c) i empty j e) [ inl u ↦ absurd (let y = u.1 in let z : ◌≡◌ {A = ℕ} 0 1 = cc in omega arith) | inr u ↦ h.asked j s' u.1 ];
          stores = nil_stores (σ.mail c) i h.stores;
          others = h.others;
        })
        (nil_settles (σ.mail c) i (AFloor C H.began σ.node) (I.settles c)) (nil_unheld C σ.node (σ.mail c) i (I.unheld c))

    module _ (full : C.n - C.f ≤ tally (upd got i true) 0 C.n) where
      ended_change : Change C σ H c (H.latest c) (a_write c r (ended_as s H.next))
      ended_change = record {
        place = let z = I.latest c in omega arith;
        later = write_later r (stamped_as s) (ended_as s H.next) h.op (record { stamp = λ s e. e; bytes = λ s e. refl });
        mine = λ d e. sym (eqb-true c d e);
        was = write_was r (stamped_as s) (ended_as s H.next) h.op;
        begun = λ e. absurd (let z : ◌≡◌ {A = ℕ} 0 1 = let y = sym h.op ∙ e in cc in omega arith);
        opens = λ t x y. let z = sym (ap (open_after t (H.latest c)) h.op) ∙ y in and_from (leb (H.latest c) t) (ltb t H.next) z (lt-ltb t H.next x);
        ends = λ t e x.
            let y = x.1.1 in
            let z : s ≡ t = cc in
            let k : H.next ≡ e = cc in
            let m = more (upd got i true) (λ j. reaches s (σ.node j).floor) 0 C.n (λ j u v x. is_reached s (σ.node j).floor (settle_got j x)) in
            (sym k, subst (Settled C σ.node) z (omega arith), I.latest c);
        owns = λ t e.
            sym (ap (by t.client) h.op) ∙ I.owner (H.latest c) t (ap stamp_of h.op ∙ e);
        good = write_good r (stamped_as s) (ended_as s H.next) h.op;
        stamps = λ t e. inl (ap stamp_of h.op ∙ e);
        reads = write_reads r (stamped_as s) (ended_as s H.next) h.op;
      }

      pub settle_closed : Inv C (with_client σ c (upd (σ.mail c) i empty) (idle l)) (with_operation H c (H.latest c) (a_write c r (ended_as s H.next)))
      settle_closed =
          let o = a_write c r (ended_as s H.next) in
          changed C σ H I c (H.latest c) o ended_change (upd (σ.mail c) i empty) (idle l)
          (record { stores = nil_stores (σ.mail c) i h.stores; quiet = quiet_after o refl h.others })
          (settles_after o ended_change i) (nil_unheld C σ.node (σ.mail c) i (I.unheld c))

  -- ---- a read's Look round

  module _ (l : Option Bytes) (i k u : ℕ) (got : ℕ → Bool) (ans : ℕ → Node) (a : Node) (said : σ.mail c i ≡ answered (looked a))
      (h : ReadLook C H.began σ.node (σ.mail c) (H.latest c) c got ans) where
    read_got : LookOk C H.began σ.node (upd (σ.mail c) i empty) (H.latest c) (upd got i true) (upd ans i a)
    read_got = look_more C H.began σ.node (σ.mail c) (H.latest c) c i got ans a said h.looks

    pub read_kept : Inv C (with_client σ c (upd (σ.mail c) i empty) (busy l (read_look k u (upd got i true) (upd ans i a)))) (passed H)
    read_kept =
        same_ops C σ H I c (upd (σ.mail c) i empty) (busy l (read_look k u (upd got i true) (upd ans i a)))
        (record { op = h.op; looks = read_got; stores = nil_stores (σ.mail c) i h.stores; others = h.others })
        (nil_settles (σ.mail c) i (AFloor C H.began σ.node) (I.settles c)) (nil_unheld C σ.node (σ.mail c) i (I.unheld c))

    pub read_again : Inv C (with_client σ c (posted C.n look) (busy l (read_look k (u + 1) nobody no_answers))) (passed H)
    read_again =
        same_ops C σ H I c (posted C.n look) (busy l (read_look k (u + 1) nobody no_answers))
        (record {
          op = h.op;
          looks = record {
            base = h.looks.base;
            under = h.looks.under;
            mailed = λ i a l e. absurd (posted_says C.n i look (looked a) e);
            gathered = λ i l e. absurd (let z : ◌≡◌ {A = ℕ} 0 1 = cc in omega arith);
            past = h.looks.past;
          };
          stores = λ j s F r e. let y = posted_ask C.n j look (storing s F r) e in let z : ◌≡◌ {A = ℕ} 0 1 = cc in omega arith;
          others = h.others;
        })
        (λ j t e. absurd (let y = posted_ask C.n j look (settling t) e in let z : ◌≡◌ {A = ℕ} 0 1 = cc in omega arith)) (look_unheld C σ.node)

    read_change : (g : Read) → ((x : Rebuilt) (e : ℕ) → Gave (a_read c g) x e → (e ≡ H.next) × NewRead C H.began (H.latest c) x) → Change C σ H c (H.latest c) (a_read c g)
    read_change g rd = record {
      place = let z = I.latest c in omega arith;
      later = rw h.op (record { stamp = λ s e. e; bytes = λ s e. refl });
      mine = λ d e. sym (eqb-true c d e);
      was = λ d x. sym (eqb-true c d (sym (ap (by d) h.op) ∙ x));
      begun = λ e. absurd (let z : ◌≡◌ {A = ℕ} 0 1 = let y = sym h.op ∙ e in cc in omega arith);
      opens = λ t x y. sym (ap (open_after t (H.latest c)) h.op) ∙ y;
      ends = λ s e x. absurd (let z : ◌≡◌ {A = ℕ} 0 1 = let y = x.1.1 in cc in omega arith);
      owns = λ s e. none_some e;
      good = λ d r g e. absurd (let z : ◌≡◌ {A = ℕ} 0 1 = cc in omega arith);
      stamps = λ s e. none_some e;
      reads = rd;
    }

    gave_up_change : Change C σ H c (H.latest c) (a_read c (gave_up H.next))
    gave_up_change = read_change (gave_up H.next) (λ x e y. absurd (let z : ◌≡◌ {A = ℕ} 0 1 = let v = y.1 in cc in omega arith))

    pub read_failed : Inv C (with_client σ c (upd (σ.mail c) i empty) (idle l)) (with_operation H c (H.latest c) (a_read c (gave_up H.next)))
    read_failed =
        let o = a_read c (gave_up H.next) in
        changed C σ H I c (H.latest c) o gave_up_change (upd (σ.mail c) i empty) (idle l)
        (record { stores = nil_stores (σ.mail c) i h.stores; quiet = quiet_after o refl h.others })
        (settles_after o gave_up_change i) (nil_unheld C σ.node (σ.mail c) i (I.unheld c))

    module _ (full : C.n - C.f ≤ tally (upd got i true) 0 C.n) (x : Rebuilt)
        (is : rebuild C (upd got i true) (upd ans i a) ≡ some x) where
      new_read : NewRead C H.began (H.latest c) x
      new_read =
          let g = rebuilt_from C L H.began σ.node I.order.apart I.records (upd got i true) (upd ans i a) (λ j u v. (read_got.gathered j u v).1) x is in
          record {
            whose = g.whose;
            stamp = g.stamp;
            bytes = g.bytes;
            recent = λ q s e y v.
                let o = look_past (upd (σ.mail c) i empty) (upd got i true) (upd ans i a) (H.latest c) read_got full q s e y v in
                le_le s (top_floor (upd got i true) (upd ans i a) lowest 0 C.n) x.stamp o g.above;
          }

      gave_change : Change C σ H c (H.latest c) (a_read c (gave x H.next))
      gave_change = read_change (gave x H.next) (λ x' e y. let v = y.1 in let z : x ≡ x' = cc in let n : H.next ≡ e = cc in (sym n, subst (NewRead C H.began (H.latest c)) z new_read))

      pub read_found : Inv C (with_client σ c (upd (σ.mail c) i empty) (idle (some x.bytes))) (with_operation H c (H.latest c) (a_read c (gave x H.next)))
      read_found =
          let o = a_read c (gave x H.next) in
          changed C σ H I c (H.latest c) o gave_change (upd (σ.mail c) i empty) (idle (some x.bytes))
          (record { stores = nil_stores (σ.mail c) i h.stores; quiet = quiet_after o refl h.others })
          (settles_after o gave_change i) (nil_unheld C σ.node (σ.mail c) i (I.unheld c))
