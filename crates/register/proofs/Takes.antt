-- A take keeps the invariant.
use Rattle.std.proofs.Common.{◌≡◌, ℕ, suc, ◌<◌, ◌≤◌, Bool, true, false, cond, List, [], ◌∷◌, ◌++◌, length, Some as some, sym, refl, ap, ◌∙◌, subst, inl, inr, arith, length-append}
use Rattle.std.proofs.lemmas.Bool.{cases_eq}
use Rattle.std.proofs.lemmas.Bool.Decides.{nat_tests}
use Rattle.code.specs.Meaning.{Meaning}
use Rattle.register.specs.Tables.{upd}
use Rattle.register.specs.Stamps.{Stamp, below, Earlier, NoLater}
use Rattle.register.specs.Nodes.{Bytes, Item, cleared, Node, raise, put, store}
use Rattle.register.specs.Reading.{node_stamps}
use Rattle.register.specs.Machine.{Request, storing, settling, Answer, looked, stored, settled, Mail, waiting, answered, write_look, write_store, write_settle, read_look, Client, off, idle, busy, Segment}
use Rattle.register.specs.History.{passed, Write, a_write, stamped_as, History, stamp_of, bytes_of, Ended}
use Rattle.register.proofs.Order.{one_or_not}
use Rattle.register.proofs.NodeLaws.{keeps, raise_keeps, store_keeps, raise_over, raise_to, put_floor, store_over, raise_low, store_low, store_new}
use Rattle.register.proofs.Readable.{Every}
use Rattle.register.proofs.Crowd.{Not}
use Rattle.register.proofs.Lean.{LeanNode, lean_raise, lean_store, lean_later, raise_every, store_every}
use Rattle.register.proofs.Items.{raise_items, store_items}
use Rattle.register.proofs.Invariant.{Ops, Grown, Established, Settles, AFloor, Stored, PieceOf, WholeOf, NodeOk, ClientOk, Inv, Frame, established_grown, settled_grown, node_later, settles_later, client_frame}
use Rattle.register.proofs.Changes.{with_node, at, off_at, upd_all, upd_case, grown_same, later_same}
use Rattle.register.proofs.Clients.{HasStored, HasPassed, Fits, client_mail}

cleared_short : (F : Stamp) (xs : List Item) → length (cleared F xs) ≤ length xs
unfolding cleared
cleared_short F [] = omega arith
cleared_short F (x ∷ xs) = let ih = cleared_short F xs in grind arith

cond_floor : (S : Stamp → Type 0) (t : Bool) (x a : Node) → S x.floor → S a.floor → S (cond t x a).floor
cond_floor S true x a h k = h
cond_floor S false x a h k = k

client_same : (c d : ℕ) (r v : Bytes) (g x : Write) → a_write c r g ≡ a_write d v x → c ≡ d
client_same c d r v g x e = cc

no_asks : (y : Answer) (q : Request) → answered y ≡ waiting q → ⊥
no_asks y q e = let z : ◌≡◌ {A = ℕ} 0 1 = cc in omega arith

module _ (C : Meaning) (i : ℕ) where
  raise_room : (F : Stamp) (a : Node) → length a.shelf ≤ C.k → length (raise C i F a).shelf ≤ C.k
  unfolding raise
  raise_room F a h = let k = cleared_short F a.shelf in grind arith

  push_length : (hs : List Item) (x : Item) → length (hs ++ (x ∷ [])) ≡ suc (length hs)
  push_length hs x = simp length-append (omega arith)

  store_room : (s F : Stamp) (r : Bytes) (a : Node) → length a.shelf ≤ C.k → length (store C i s F r a).shelf ≤ C.k
  unfolding store put
  store_room s F r a h = let k = raise_room F a h in grind (arith, nat_tests, push_length)

  raise_base : (S : Stamp → Type 0) (F : Stamp) (a : Node) → S a.floor → S F → S (raise C i F a).floor
  unfolding raise
  raise_base S F a h k = cond_floor S (below a.floor F) _ a k h

  store_base : (S : Stamp → Type 0) (s F : Stamp) (r : Bytes) (a : Node) → S a.floor → S F → S (store C i s F r a).floor
  unfolding store
  store_base S s F r a h k =
      cond_floor S (below a.floor s) (put C i s r (raise C i F a)) a (subst S (sym (put_floor C i s r (raise C i F a))) (raise_base S F a h k)) h

  raise_grown : (F : Stamp) (a : Node) → Grown a (raise C i F a)
  raise_grown F a = record { floor = raise_over C i F a; keep = λ t h. raise_keeps C i F t a h }

  store_grown : (s F : Stamp) (r : Bytes) (a : Node) → Grown a (store C i s F r a)
  store_grown s F r a = record { floor = store_over C i s F r a; keep = λ t h. store_keeps C i s F r t a h }

-- what is known of a write whose Store request waits
pub record StoreFacts (C : Meaning) (B : Ops) (node : ℕ → Node) (p d i : ℕ) (s F : Stamp) (r : Bytes) (x : Client) : Type 0 where
  pub op : B p ≡ a_write d r (stamped_as s)
  pub floor : AFloor C B node F
  pub less : Earlier F s
  pub past : (q : ℕ) (t : Stamp) (e : ℕ) → Ended (B q) t e → e < p → NoLater t F
  pub has : (node' : ℕ → Node) → Stored C node' s i → HasStored C node' i x

-- a Store request waits only in its client's Store round
pub store_facts : (C : Meaning) (B : Ops) (node : ℕ → Node) (m : ℕ → Mail) (p d i : ℕ) (s F : Stamp) (r : Bytes) (x : Client) → ClientOk C B node m p d x
    → m i ≡ waiting (storing s F r) → StoreFacts C B node p d i s F r x
store_facts C B node m p d i s F r off h e = absurd (h.stores i s F r e)
store_facts C B node m p d i s F r (idle l) h e = absurd (h.stores i s F r e)
store_facts C B node m p d i s F r (busy l (write_look v got ans)) h e = absurd (h.stores i s F r e)
store_facts C B node m p d i s F r (busy l (write_store v t G got)) h e =
    let q = h.asked i s F r e in record {
      op = rw (q.0, q.2) h.op;
      floor = rw q.1 h.floor;
      less = rw (q.0, q.1) h.less;
      past = rw q.1 h.past;
      has = λ node' k. rw q.0 at k;
    }
store_facts C B node m p d i s F r (busy l (write_settle v t got)) h e = absurd (h.stores i s F r e)
store_facts C B node m p d i s F r (busy l (read_look k u got ans)) h e = absurd (h.stores i s F r e)

settle_facts : (C : Meaning) (B : Ops) (node : ℕ → Node) (m : ℕ → Mail) (p d i : ℕ) (s : Stamp) (x : Client) → ClientOk C B node m p d x
    → m i ≡ waiting (settling s) → (node' : ℕ → Node) → NoLater s (node' i).floor → HasPassed node' i x
settle_facts C B node m p d i s off h e a k = tt
settle_facts C B node m p d i s (idle l) h e a k = tt
settle_facts C B node m p d i s (busy l (write_look v got ans)) h e a k = tt
settle_facts C B node m p d i s (busy l (write_store v t G got)) h e a k = tt
settle_facts C B node m p d i s (busy l (write_settle v t got)) h e a k = rw (h.asked i s e) at k
settle_facts C B node m p d i s (busy l (read_look j u got ans)) h e a k = tt

module _ (C : Meaning) (σ : Segment) (H : History) (I : Inv C σ H) (c i : ℕ) (l : i < C.n) where
  -- one node grows
  all_grown : (a : Node) → Grown (σ.node i) a → (j : ℕ) → Grown (σ.node j) (upd σ.node i a j)
  all_grown a g = upd_all (λ j x. Grown (σ.node j) x) σ.node i a g (λ j n. grown_same (σ.node j))

  -- node i becomes a, and answers y
  taken : (a : Node) (y : Answer) → Grown (σ.node i) a → NodeOk C H.began σ.node i a
      → ((b : Node) → answered y ≡ answered (looked b) → b ≡ a) → (answered y ≡ answered stored → HasStored C (upd σ.node i a) i (σ.client c))
      → (answered y ≡ answered settled → HasPassed (upd σ.node i a) i (σ.client c)) → LeanNode C H.began H.next a
      → ((d : ℕ) → (d ≡ c → ⊥) → (s F : Stamp) (r : Bytes) → σ.mail d i ≡ waiting (storing s F r) → Every (Not s) (node_stamps (σ.node i)) → Every (Not s) (node_stamps a))
      → Inv C (with_node σ c i a (answered y)) (passed H)
  taken a y g ok looks has passed le st =
      let B = H.began in
      let node' = upd σ.node i a in
      let grown : (j : ℕ) → Grown (σ.node j) (node' j) = all_grown a g in
      let ok' : (j : ℕ) (x : Node) → NodeOk C B σ.node j x → NodeOk C B node' j x = node_later C B B σ.node node' (λ q. later_same (B q)) grown in
      let fits : Fits C B node' i (σ.client c) (answered y) = record {
        looks = λ b e. (looks b e ∙ sym (at σ.node i a), subst (NodeOk C B node' i) (sym (at σ.node i a)) (ok' i a ok));
        stores = λ s F r e. no_asks y (storing s F r) e;
        settles = λ s e. no_asks y (settling s) e;
        has = has;
        passed = passed;
      } in
      let frame : (d : ℕ) → Frame C B B σ.node node' (H.latest d) d = λ d. record {
        later = λ q. later_same (B q);
        back = λ q s e x u. x;
        op = λ x. refl;
        own = λ q x. refl;
        nodes = grown;
      } in
      let held : (d : ℕ) → ClientOk C B node' (σ.mail d) (H.latest d) d (σ.client d) =
      λ d. client_frame C B B σ.node node' (H.latest d) d (frame d) (σ.mail d) (σ.client d) (I.clients d) in
      record {
        clock = λ q u. I.clock q (omega arith);
        ends = λ q s e x. let z = I.ends q s e x in omega arith;
        owner = I.owner;
        records = I.records;
        order = record { apart = I.order.apart; kept = I.order.kept };
        reads = record { written = I.reads.written; recent = I.reads.recent };
        nodes = λ j u. ok' j (node' j) (upd_all (λ j x. j < C.n → NodeOk C B σ.node j x) σ.node i a (λ v. ok) (λ j n v. I.nodes j v) j u);
        settled = λ q s e x. settled_grown C σ.node node' grown s (I.settled q s e x);
        clients =
            upd_all (λ d m. ClientOk C B node' m (H.latest d) d (σ.client d)) σ.mail c (upd (σ.mail c) i (answered y))
            (client_mail C B node' (σ.mail c) (H.latest c) c i (σ.client c) (answered y) fits (held c)) (λ d n. held d);
        settles =
            let floors : (d : ℕ) → Settles C B node' (σ.mail d) = λ d. settles_later C B B σ.node node' (λ q. later_same (B q)) grown (σ.mail d) (I.settles d) in
            upd_all (λ d m. Settles C B node' m) σ.mail c (upd (σ.mail c) i (answered y))
            (λ j s e. elim (upd_case (λ v. v ≡ waiting (settling s)) (σ.mail c) i (answered y) j e) [ inl u ↦ absurd (no_asks y (settling s) u.1) | inr u ↦ floors c j s u.1 ])
            (λ d n. floors d);
        latest = λ d. let z = I.latest d in omega arith;
        parted = I.parted;
        lean = λ j u.
            lean_later C B B H.next (node' j) (λ q s e. e) (λ q q' s t e x y z. y) (λ p q x y. y)
            (upd_all (λ j x. j < C.n → LeanNode C B H.next x) σ.node i a (λ v. le) (λ j n v. I.lean j v) j u);
        unheld = λ d j s F r u e.
            elim (cases_eq d c) [
              | inl dc ↦
                  let e' : upd (σ.mail c) i (answered y) j ≡ waiting (storing s F r) = sym (ap (λ v. v j) (at σ.mail c (upd (σ.mail c) i (answered y)))) ∙ (rw dc at e) in
                  elim (upd_case (λ v. v ≡ waiting (storing s F r)) (σ.mail c) i (answered y) j e') [
                    | inl v ↦ absurd (no_asks y (storing s F r) v.1)
                    | inr v ↦ subst (λ z. Every (Not s) (node_stamps z)) (sym (off_at σ.node i j a v.0)) (I.unheld c j s F r u v.1)
                  ]
              | inr dc ↦
                  let e' : σ.mail d j ≡ waiting (storing s F r) = sym (ap (λ v. v j) (off_at σ.mail c d (upd (σ.mail c) i (answered y)) dc)) ∙ e in
                  upd_all (λ j x. σ.mail d j ≡ waiting (storing s F r) → j < C.n → Every (Not s) (node_stamps x)) σ.node i a
                  (λ v k. st d dc s F r v (I.unheld d i s F r k v)) (λ j n v k. I.unheld d j s F r k v) j e' u
            ];
      }

  pub look_taken : Inv C (with_node σ c i (σ.node i) (answered (looked (σ.node i)))) (passed H)
  look_taken =
      taken (σ.node i) (looked (σ.node i)) (grown_same (σ.node i)) (I.nodes i l) (λ b e. cc) (λ e. absurd (let z : ◌≡◌ {A = ℕ} 0 1 = cc in omega arith))
      (λ e. absurd (let z : ◌≡◌ {A = ℕ} 0 1 = cc in omega arith)) (I.lean i l) (λ d n s F r e h. h)

  store_ok : (s F : Stamp) (r : Bytes) → σ.mail c i ≡ waiting (storing s F r) → NodeOk C H.began σ.node i (store C i s F r (σ.node i))
  store_ok s F r e =
      let a = σ.node i in
      let B = H.began in
      let f = store_facts C B σ.node (σ.mail c) (H.latest c) c i s F r (σ.client c) (I.clients c) e in
      let n = I.nodes i l in record {
        low = store_low C i s F r a n.low;
        items = store_items C i (PieceOf C B i) (WholeOf C B) (λ t v x. (x.0, x.1, ap (λ b. C.piece b i) x.2)) s F r a (H.latest c, ap stamp_of f.op, sym (ap bytes_of f.op)) n.items;
        base = store_base C i (AFloor C B σ.node) s F r a n.base f.floor;
        room = store_room C i s F r a n.room;
      }

  pub store_taken : (s F : Stamp) (r : Bytes) → σ.mail c i ≡ waiting (storing s F r)
      → Inv C (with_node σ c i (store C i s F r (σ.node i)) (answered stored)) (passed H)
  store_taken s F r e =
      let a = σ.node i in
      let B = H.began in
      let f = store_facts C B σ.node (σ.mail c) (H.latest c) c i s F r (σ.client c) (I.clients c) e in
      let n = I.nodes i l in
      let node' = upd σ.node i (store C i s F r a) in
      let kept : Stored C node' s i =
      elim (one_or_not a.floor s) [
        | inl x ↦ inr (established_grown C σ.node node' (all_grown (store C i s F r a) (store_grown C i s F r a)) s (subst (Established C σ.node) x n.base.2))
        | inr x ↦ inl (subst (λ v. keeps s v ≡ true) (sym (at σ.node i (store C i s F r a))) (store_new C i s F r a n.low x f.less))
      ] in
      taken (store C i s F r a) stored (store_grown C i s F r a) (store_ok s F r e) (λ b y. absurd (let z : ◌≡◌ {A = ℕ} 0 1 = cc in omega arith)) (λ y. f.has node' kept)
      (λ y. absurd (let z : ◌≡◌ {A = ℕ} 0 1 = cc in omega arith))
      (lean_store C B H.next I.clock I.parted i (H.latest c) s F r a (ap stamp_of f.op) f.past f.less (I.unheld c i s F r l e) (I.lean i l))
      (λ d n t G v y h.
      store_every C i (Not t) s F r a
      (λ x.
      let g = store_facts C B σ.node (σ.mail d) (H.latest d) d i t G v (σ.client d) (I.clients d) y in
      let q = I.order.apart (H.latest c) (H.latest d) t (ap stamp_of f.op ∙ ap some x) (ap stamp_of g.op) in
      let z : a_write c r (stamped_as s) ≡ a_write d v (stamped_as t) = sym f.op ∙ ap B q ∙ g.op in
      n (sym (client_same c d r v (stamped_as s) (stamped_as t) z))) h)

  pub settle_taken : (s : Stamp) → σ.mail c i ≡ waiting (settling s)
      → Inv C (with_node σ c i (raise C i s (σ.node i)) (answered settled)) (passed H)
  settle_taken s e =
      let a = σ.node i in
      let B = H.began in
      let n = I.nodes i l in
      let b = I.settles c i s e in
      taken (raise C i s a) settled (raise_grown C i s a)
      (record {
        low = raise_low C i s a n.low;
        items = raise_items C i (PieceOf C B i) (WholeOf C B) (λ t v x. (x.0, x.1, ap (λ b. C.piece b i) x.2)) s a n.items;
        base = raise_base C i (AFloor C B σ.node) s a n.base b;
        room = raise_room C i s a n.room;
      })
      (λ b y. absurd (let z : ◌≡◌ {A = ℕ} 0 1 = cc in omega arith)) (λ y. absurd (let z : ◌≡◌ {A = ℕ} 0 1 = cc in omega arith))
      (λ y. settle_facts C B σ.node (σ.mail c) (H.latest c) c i s (σ.client c) (I.clients c) e (upd σ.node i (raise C i s a))
      (subst (λ v. NoLater s v.floor) (sym (at σ.node i (raise C i s a))) (raise_to C i s a)))
      (lean_raise C B H.next I.clock I.parted i s a (I.lean i l)) (λ d n t G v y h. raise_every C i (Not t) s a h)
