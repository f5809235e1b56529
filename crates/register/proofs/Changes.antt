-- What a step must show of its own client, so that the invariant lasts.
use Rattle.std.proofs.Common.{◌≡◌, ℕ, suc, ◌<◌, ◌≤◌, true, ◌⊎◌, Some as some, sym, refl, ap, ◌∙◌, subst, inl, inr, arith}
use mathlib.Core.Path.{fun_ext}
use Rattle.std.proofs.lemmas.Bool.{cases_eq, cases_lt, eq-eqb, ne_eqb}
use Rattle.code.specs.Meaning.{Meaning}
use Rattle.register.specs.Tables.{upd}
use Rattle.register.specs.Stamps.{Stamp, Earlier, NoLater}
use Rattle.register.specs.Nodes.{Bytes, Node}
use Rattle.register.specs.Reading.{Rebuilt}
use Rattle.register.specs.Machine.{Mail, Client, Segment}
use Rattle.register.specs.History.{passed, Write, Operation, nothing, a_write, History, stamp_of, bytes_of, Ended, Gave, open_after}
use Rattle.register.specs.Promises.{OneOrder, RegularReads, ARecord}
use Rattle.register.proofs.Order.{le_itself}
use Rattle.register.proofs.Readable.{none_some}
use Rattle.register.proofs.Lean.{lean_later}
use Rattle.register.proofs.Invariant.{by, Ops, Later, Grown, ClientOk, Settled, Settles, Unheld, Inv, Frame, node_later, settles_later, client_frame}

-- the segment in which client c has these mailboxes and this entry
abbrev pub with_client : Segment → ℕ → (ℕ → Mail) → Client → Segment
with_client σ c mail x = record { clients = σ.clients; node = σ.node; mail = upd σ.mail c mail; client = upd σ.client c x }

-- the segment in which node i is a, and client c's mailbox there holds y
abbrev pub with_node : Segment → ℕ → ℕ → Node → Mail → Segment
with_node σ c i a y = record { clients = σ.clients; node = upd σ.node i a; mail = upd σ.mail c (upd (σ.mail c) i y); client = σ.client }

-- the history with one more entry, after which client c's latest operation is o, begun at p
abbrev pub with_operation : History → ℕ → ℕ → Operation → History
with_operation H c p o = record { next = suc H.next; began = upd H.began p o; latest = upd H.latest c p }

pub at : {A : Type 0} (g : ℕ → A) (i : ℕ) (x : A) → upd g i x i ≡ x
at g i x = rw (eq-eqb i i refl)

pub off_at : {A : Type 0} (g : ℕ → A) (i j : ℕ) (x : A) → (j ≡ i → ⊥) → upd g i x j ≡ g j
off_at g i j x n = rw (ne_eqb i j (λ e. n (sym e)))

pub upd_same : {A : Type 0} (g : ℕ → A) (i : ℕ) → upd g i (g i) ≡ g
upd_same g i = fun_ext (λ j. elim (cases_eq j i) [ inl e ↦ rw e (at g i (g i)) | inr n ↦ off_at g i j (g i) n ])

-- what holds at i for x and elsewhere for g holds everywhere for upd g i x
pub upd_all : {A : Type 0} (P : ℕ → A → Type 0) (g : ℕ → A) (i : ℕ) (x : A) → P i x → ((j : ℕ) → (j ≡ i → ⊥) → P j (g j)) → (j : ℕ) → P j (upd g i x j)
upd_all P g i x h k j =
    elim (cases_eq j i) [
      | inl e ↦ let z : upd g i x i ≡ x = at g i x in rw e (subst (P i) (sym z) h)
      | inr n ↦ subst (P j) (sym (off_at g i j x n)) (k j n)
    ]

pub grown_same : (a : Node) → Grown a a
grown_same a = record { floor = le_itself a.floor; keep = λ t h. h }

pub later_same : (o : Operation) → Later o o
later_same o = record { stamp = λ s h. h; bytes = λ s h. refl }

pub upd_case : {A : Type 0} (R : A → Type 0) (g : ℕ → A) (i : ℕ) (x : A) (j : ℕ) → R (upd g i x j) → ((j ≡ i) × R x) ⊎ ((j ≡ i → ⊥) × R (g j))
upd_case R g i x j h =
    elim (cases_eq j i) [
      | inl e ↦ let z : upd g i x j ≡ x = rw e (at g i x) in inl (e, subst R z h)
      | inr n ↦ inr (n, subst R (off_at g i j x n) h)
    ]

-- three tables changed at one place
pub upd3_all : {A B D : Type 0} (P : ℕ → A → B → D → Type 0) (f : ℕ → A) (g : ℕ → B) (h : ℕ → D) (i : ℕ) (x : A) (y : B) (z : D)
    → P i x y z → ((j : ℕ) → (j ≡ i → ⊥) → P j (f j) (g j) (h j)) → (j : ℕ) → P j (upd f i x j) (upd g i y j) (upd h i z j)
upd3_all P f g h i x y z a b j =
    elim (cases_eq j i) [
      | inl e ↦ rw e (subst (λ u. P i u (upd g i y i) (upd h i z i)) (sym (at f i x)) (subst (λ u. P i x u (upd h i z i)) (sym (at g i y)) (subst (P i x y) (sym (at h i z)) a)))
      | inr n ↦
          subst (λ u. P j u (upd g i y j) (upd h i z j)) (sym (off_at f i j x n))
          (subst (λ u. P j (f j) u (upd h i z j)) (sym (off_at g i j y n)) (subst (P j (f j) (g j)) (sym (off_at h i j z n)) (b j n)))
    ]

no_gave : (x : Rebuilt) (e : ℕ) {A : Type 0} → Gave nothing x e → A
no_gave x e h = absurd (let z : ◌≡◌ {A = ℕ} 0 1 = let y = h.1 in cc in omega arith)

module _ (C : Meaning) where
  -- a step that changes the entry and the mailboxes of c, and no operation
  pub same_ops : (σ : Segment) (H : History) → Inv C σ H → (c : ℕ) (m : ℕ → Mail) (x : Client) → ClientOk C H.began σ.node m (H.latest c) c x
      → Settles C H.began σ.node m → Unheld C σ.node m
      → Inv C (with_client σ c m x) (passed H)
  same_ops σ H I c m x h k un = record {
    clock = λ q l. I.clock q (omega arith);
    ends = λ q s e y. let z = I.ends q s e y in omega arith;
    owner = I.owner;
    records = I.records;
    order = record { apart = I.order.apart; kept = I.order.kept };
    reads = record { written = I.reads.written; recent = I.reads.recent };
    nodes = I.nodes;
    settled = I.settled;
    clients =
        upd3_all (λ d m x u. ClientOk C H.began σ.node m (H.latest d) d x) σ.mail σ.client H.latest c m x (H.latest c) h (λ d n. I.clients d);
    settles = upd_all (λ d m. Settles C H.began σ.node m) σ.mail c m k (λ d n. I.settles d);
    latest = λ d. let z = I.latest d in omega arith;
    parted = I.parted;
    lean = λ i l. lean_later C H.began H.began H.next (σ.node i) (λ q s e. e) (λ q q' s t e x y z. y) (λ p q x y. y) (I.lean i l);
    unheld = upd_all (λ d m. Unheld C σ.node m) σ.mail c m un (λ d n. I.unheld d);
  }

  -- a step that changes nothing
  pub tick : (σ : Segment) (H : History) → Inv C σ H → Inv C σ (passed H)
  tick σ H I = record {
    clock = λ q l. I.clock q (omega arith);
    ends = λ q s e y. let z = I.ends q s e y in omega arith;
    owner = I.owner;
    records = I.records;
    order = record { apart = I.order.apart; kept = I.order.kept };
    reads = record { written = I.reads.written; recent = I.reads.recent };
    nodes = I.nodes;
    settled = I.settled;
    clients = I.clients;
    settles = I.settles;
    latest = λ d. let z = I.latest d in omega arith;
    parted = I.parted;
    lean = λ i l. lean_later C H.began H.began H.next (σ.node i) (λ q s e. e) (λ q q' s t e x y z. y) (λ p q x y. y) (I.lean i l);
    unheld = I.unheld;
  }

  -- a stamp that no other write has, above those of the writes that ended before
  pub record Fresh (B : Ops) (p : ℕ) (s : Stamp) : Type 0 where
    pub apart : (q : ℕ) → (q ≡ p → ⊥) → stamp_of (B q) ≡ some s → ⊥
    pub late : (q : ℕ) (t : Stamp) (e : ℕ) → Ended (B q) t e → e < p → Earlier t s

  -- x is the record of a write, under its stamp, and no write that ended before p stands later
  pub record NewRead (B : Ops) (p : ℕ) (x : Rebuilt) : Type 0 where
    pub whose : ℕ
    pub stamp : stamp_of (B whose) ≡ some x.stamp
    pub bytes : bytes_of (B whose) ≡ x.bytes
    pub recent : (q : ℕ) (s : Stamp) (e : ℕ) → Ended (B q) s e → e < p → NoLater s x.stamp

  -- what must be shown where the operation at p, of client c, becomes o
  pub record Change (σ : Segment) (H : History) (c p : ℕ) (o : Operation) : Type 0 where
    pub place : p ≤ H.next
    pub later : Later (H.began p) o
    pub mine : (d : ℕ) → by d o ≡ true → d ≡ c
    pub was : (d : ℕ) → by d (H.began p) ≡ true → d ≡ c
    pub begun : H.began p ≡ nothing → p ≡ H.next
    pub opens : (t : ℕ) → t < H.next → open_after t p (H.began p) ≡ true → open_after t p o ≡ true
    pub ends : (s : Stamp) (e : ℕ) → Ended o s e → (e ≡ H.next) × Settled C σ.node s × (p < H.next)
    pub owns : (s : Stamp) → stamp_of o ≡ some s → by s.client o ≡ true
    pub good : (d : ℕ) (r : Bytes) (g : Write) → o ≡ a_write d r g → ARecord r
    pub stamps : (s : Stamp) → stamp_of o ≡ some s → (stamp_of (H.began p) ≡ some s) ⊎ Fresh H.began p s
    pub reads : (x : Rebuilt) (e : ℕ) → Gave o x e → (e ≡ H.next) × NewRead H.began p x

  module _ (σ : Segment) (H : History) (I : Inv C σ H) (c p : ℕ) (o : Operation) (h : Change σ H c p o) where
    B' : Ops
    B' = upd H.began p o

    pub all_later : (q : ℕ) → Later (H.began q) (upd H.began p o q)
    all_later = upd_all (λ q x. Later (H.began q) x) H.began p o h.later (λ q n. later_same (H.began q))

    frame : (d : ℕ) → (d ≡ c → ⊥) → Frame C H.began (upd H.began p o) σ.node σ.node (H.latest d) d
    frame d n = record {
      later = all_later;
      back = λ q s e x l.
          elim (upd_case (λ y. Ended y s e) H.began p o q x) [
            | inl y ↦ absurd (let a = (h.ends s e y.1).0 in let b = I.latest d in omega arith)
            | inr y ↦ y.1
          ];
      op = λ x. off_at H.began p (H.latest d) o (λ e. n (h.was d (rw e at x)));
      own = λ q x. elim (upd_case (λ y. by d y ≡ true) H.began p o q x) [ inl y ↦ absurd (n (h.mine d y.1)) | inr y ↦ off_at H.began p q o y.0 ];
      nodes = λ i. grown_same (σ.node i);
    }

    order' : OneOrder (record { next = H.next; began = upd H.began p o; latest = H.latest })
    order' = record {
      apart = λ a b s x y.
          elim (upd_case (λ z. stamp_of z ≡ some s) H.began p o a x) [
            | inl u ↦
                elim (upd_case (λ z. stamp_of z ≡ some s) H.began p o b y) [
                  | inl v ↦ u.0 ∙ sym v.0
                  | inr v ↦ elim (h.stamps s u.1) [ inl k ↦ u.0 ∙ I.order.apart p b s k v.1 | inr k ↦ absurd (k.apart b v.0 v.1) ]
                ]
            | inr u ↦
                elim (upd_case (λ z. stamp_of z ≡ some s) H.began p o b y) [
                  | inl v ↦ elim (h.stamps s v.1) [ inl k ↦ I.order.apart a p s u.1 k ∙ sym v.0 | inr k ↦ absurd (k.apart a u.0 u.1) ]
                  | inr v ↦ I.order.apart a b s u.1 v.1
                ]
          ];
      kept = λ a b s t e x y l.
          elim (upd_case (λ z. Ended z s e) H.began p o a x) [
            | inl u ↦
                let en = (h.ends s e u.1).0 in
                elim (upd_case (λ z. stamp_of z ≡ some t) H.began p o b y) [
                  | inl v ↦ absurd (let z = v.0 in let pl = h.place in omega arith)
                  | inr v ↦ none_some (sym (ap stamp_of (I.clock b (omega arith))) ∙ v.1)
                ]
            | inr u ↦
                elim (upd_case (λ z. stamp_of z ≡ some t) H.began p o b y) [
                  | inl v ↦
                      let z = v.0 in
                      let l' : e < p = omega arith in
                      elim (h.stamps t v.1) [ inl k ↦ I.order.kept a p s t e u.1 k l' | inr k ↦ k.late a s e u.1 l' ]
                  | inr v ↦ I.order.kept a b s t e u.1 v.1 l
                ]
          ];
    }

    reads' : RegularReads (record { next = H.next; began = upd H.began p o; latest = H.latest })
    reads' = record {
      written = λ a e x y.
          elim (upd_case (λ z. Gave z x e) H.began p o a y) [
            | inl u ↦
                let k = h.reads x e u.1 in
                let r = k.1 in
                let l = all_later r.whose in
                let en = k.0 in
                let b : r.whose < H.next =
                elim (cases_lt r.whose H.next) [ inl z ↦ z | inr z ↦ none_some (sym (ap stamp_of (I.clock r.whose z)) ∙ r.stamp) ] in
                (r.whose, omega arith, (l.stamp x.stamp r.stamp, sym (l.bytes x.stamp r.stamp) ∙ r.bytes))
            | inr u ↦
                let g = I.reads.written a e x u.1 in
                let l = all_later g.0 in
                (g.0, g.1, (l.stamp x.stamp g.2.0, sym (l.bytes x.stamp g.2.0) ∙ g.2.1))
          ];
      recent = λ a e x y q s e' z l.
          elim (upd_case (λ v. Gave v x e) H.began p o a y) [
            | inl u ↦
                elim (upd_case (λ v. Ended v s e') H.began p o q z) [
                  | inl v ↦ absurd (let en = (h.ends s e' v.1).0 in let k = u.0 in let pl = h.place in omega arith)
                  | inr v ↦ (h.reads x e u.1).1.recent q s e' v.1 (let k = u.0 in omega arith)
                ]
            | inr u ↦
                elim (upd_case (λ v. Ended v s e') H.began p o q z) [
                  | inl v ↦ let en = (h.ends s e' v.1).0 in no_gave x e (subst (λ v. Gave v x e) (I.clock a (omega arith)) u.1)
                  | inr v ↦ I.reads.recent a e x u.1 q s e' v.1 l
                ]
          ];
    }

    pub changed : (m : ℕ → Mail) (x : Client) → ClientOk C (upd H.began p o) σ.node m p c x
        → Settles C (upd H.began p o) σ.node m → Unheld C σ.node m
        → Inv C (with_client σ c m x) (with_operation H c p o)
    changed m x ok k un = record {
      clock = λ q l. let pl = h.place in off_at H.began p q o (λ e. omega arith) ∙ I.clock q (omega arith);
      ends = λ q s e y.
          elim (upd_case (λ v. Ended v s e) H.began p o q y) [
            | inl u ↦ let z = (h.ends s e u.1).0 in omega arith
            | inr u ↦ let z = I.ends q s e u.1 in omega arith
          ];
      owner = λ q s y.
          elim (upd_case (λ v. stamp_of v ≡ some s) H.began p o q y) [
            | inl u ↦ let z : upd H.began p o q ≡ o = rw u.0 (at H.began p o) in ap (by s.client) z ∙ h.owns s u.1
            | inr u ↦ ap (by s.client) (off_at H.began p q o u.0) ∙ I.owner q s u.1
          ];
      records = λ q d r g y. elim (upd_case (λ v. v ≡ a_write d r g) H.began p o q y) [ inl u ↦ h.good d r g u.1 | inr u ↦ I.records q d r g u.1 ];
      order = record { apart = order'.apart; kept = order'.kept };
      reads = record { written = reads'.written; recent = reads'.recent };
      nodes = λ i l. node_later C H.began (upd H.began p o) σ.node σ.node all_later (λ j. grown_same (σ.node j)) i (σ.node i) (I.nodes i l);
      settled = λ q s e y. elim (upd_case (λ v. Ended v s e) H.began p o q y) [ inl u ↦ (h.ends s e u.1).1 | inr u ↦ I.settled q s e u.1 ];
      clients =
          upd3_all (λ d m x u. ClientOk C (upd H.began p o) σ.node m u d x) σ.mail σ.client H.latest c m x p ok
          (λ d n. client_frame C H.began (upd H.began p o) σ.node σ.node (H.latest d) d (frame d n) (σ.mail d) (σ.client d) (I.clients d));
      settles =
          upd_all (λ d m. Settles C (upd H.began p o) σ.node m) σ.mail c m k
          (λ d n. settles_later C H.began (upd H.began p o) σ.node σ.node all_later (λ j. grown_same (σ.node j)) (σ.mail d) (I.settles d));
      latest = upd_all (λ d u. u < suc H.next) H.latest c p (let pl = h.place in omega arith) (λ d n. let z = I.latest d in omega arith);
      parted = λ q s e y.
          elim (upd_case (λ v. Ended v s e) H.began p o q y) [
            | inl u ↦
                let z = h.ends s e u.1 in
                let a = z.0 in
                let b = z.2 in
                inr (off_at H.began p e o (λ v. omega arith) ∙ I.clock e (omega arith))
            | inr u ↦
                elim (I.parted q s e u.1) [
                  | inl v ↦ inl v
                  | inr v ↦ inr (off_at H.began p e o (λ z. let a = I.ends q s e u.1 in let b = h.begun (sym (ap H.began z) ∙ v) in omega arith) ∙ v)
                ]
          ];
      lean = λ i l.
          lean_later C H.began (upd H.began p o) H.next (σ.node i) (λ q s e. (all_later q).stamp s e)
          (λ q q' s t e x y z.
          elim (upd_case (λ v. Ended v t e) H.began p o q' y) [
            | inl u ↦ (let a = (h.ends t e u.1).0 in none_some (sym (ap stamp_of (I.clock q (omega arith))) ∙ x))
            | inr u ↦ u.1
          ])
          (λ t q x y. upd_all (λ q v. open_after t q (H.began q) ≡ true → open_after t q v ≡ true) H.began p o (h.opens t x) (λ q n v. v) q y) (I.lean i l);
      unheld = upd_all (λ d m. Unheld C σ.node m) σ.mail c m un (λ d n. I.unheld d);
    }
