-- What the nodes rebuild, and what answers give.
use Rattle.std.proofs.Common.{◌≡◌, ℕ, ◌<◌, ◌≤◌, Bool, true, ◌&&◌, ◌⊎◌, Some as some, sym, refl, ap, ◌∙◌, subst, inl, inr, arith}
use Rattle.std.proofs.lemmas.Bool.{and_parts}
use Rattle.code.specs.Meaning.{Meaning, Lawful}
use Rattle.record.specs.Layout.{is_record}
use Rattle.register.specs.Tables.{tally}
use Rattle.register.specs.Stamps.{Stamp, lowest, NoLater}
use Rattle.register.specs.Nodes.{Bytes, Node}
use Rattle.register.specs.Reading.{Rebuilt, rebuild, top_floor, stamps, node_piece}
use Rattle.register.specs.Machine.{Segment}
use Rattle.register.specs.History.{Write, Operation, nothing, a_write, a_read, History, stamp_of, bytes_of}
use Rattle.register.specs.Promises.{Rebuilding, ARecord, JoinsRecords, WholeRecords, RecordsAt}
use Rattle.register.proofs.Order.{reaches, not_below, le_le, lowest_is}
use Rattle.register.proofs.Counting.{meet, one}
use Rattle.register.proofs.NodeLaws.{has}
use Rattle.register.proofs.Readable.{none_some, some_of, Under, joins, record_is, best_is, top_over, top_is, pieces_length, readable}
use Rattle.register.proofs.Items.{piece_found, whole_found, stamps_every, in_every}
use Rattle.register.proofs.Invariant.{Ops, AFloor, PieceOf, WholeOf, NodeOk, Inv}

-- a stamped operation is a write
pub record AWrite (o : Operation) : Type 0 where
  pub client : ℕ
  pub stage : Write
  pub is : o ≡ a_write client (bytes_of o) stage

pub a_write_is : (o : Operation) (s : Stamp) → stamp_of o ≡ some s → AWrite o
a_write_is nothing s e = none_some e
a_write_is (a_write c r g) s e = record { client = c; stage = g; is = refl }
a_write_is (a_read c x) s e = none_some e

-- the highest floor of some nodes is one of theirs
pub top_floor_is : (S : Stamp → Type 0) (Q : ℕ → Bool) (a : ℕ → Node) (n : ℕ) → 1 ≤ tally Q 0 n → ((j : ℕ) → j < n → Q j ≡ true → S (a j).floor) → S (top_floor Q a lowest 0 n)
top_floor_is S Q a n h f =
    let t = top_floor Q a lowest 0 n in
    let j = one Q 0 n h in
    let o = top_over Q a lowest 0 n j.0 j.1 j.2 j.3 in
    let z = top_is (λ s. (s ≡ lowest) ⊎ S s) Q a lowest 0 n (inl refl) (λ j x y q. inr (f j (omega arith) q)) in
    elim z [
      | inl e ↦
          let u : NoLater (a j.0).floor lowest = rw e at o in
          let v = lowest_is (a j.0).floor u in
          subst S (v ∙ sym e) (f j.0 (omega arith) j.3)
      | inr y ↦ y
    ]

-- the stamps of all writes differ
abbrev pub Differ : Ops → Type 0
Differ B = (p q : ℕ) (s : Stamp) → stamp_of (B p) ≡ some s → stamp_of (B q) ≡ some s → p ≡ q

-- what is written are records
abbrev pub Good : Ops → Type 0
Good B = (q c : ℕ) (r : Bytes) (g : Write) → B q ≡ a_write c r g → ARecord r

pub good_bytes : (B : Ops) → Good B → (q : ℕ) (s : Stamp) → stamp_of (B q) ≡ some s → ARecord (bytes_of (B q))
good_bytes B g q s e = let w = a_write_is (B q) s e in g q w.client (bytes_of (B q)) w.stage w.is

module _ (C : Meaning) (L : Lawful C) where
  module _ (B : Ops) (node : ℕ → Node) (differ : Differ B) (good : Good B) where
    -- what a node holds under the stamp of the write q is of that write
    under_of : (q : ℕ) (s : Stamp) (j : ℕ) (a : Node) → stamp_of (B q) ≡ some s → NodeOk C B node j a → Under C (bytes_of (B q)) s j a
    under_of q s j a e h = record {
      of_piece = λ b x.
          let f = piece_found (PieceOf C B j) (WholeOf C B) s a b h.items x in
          let z = differ f.0 q s f.1 e in
          f.2 ∙ ap (λ v. C.piece (bytes_of (B v)) j) z;
      of_whole = λ b x.
          let f = whole_found (PieceOf C B j) (WholeOf C B) s a.spare b h.items.spared x in
          let z = differ f.0 q s f.1 e in
          f.2 ∙ ap (λ v. bytes_of (B v)) z;
    }

    -- k pieces under one stamp join to a record
    joins_records : (Q : ℕ → Bool) (a : ℕ → Node) → ((j : ℕ) → j < C.n → Q j ≡ true → NodeOk C B node j (a j)) → JoinsRecords C Q a
    joins_records Q a ok t h =
        let l = pieces_length Q a t 0 C.n in
        let n = L.needed in
        let j = one (λ j. Q j && has (node_piece t (a j))) 0 C.n (omega arith) in
        let b = and_parts (Q j.0) (has (node_piece t (a j.0))) j.3 in
        let x = some_of (node_piece t (a j.0)) b.1 in
        let f = piece_found (PieceOf C B j.0) (WholeOf C B) t (a j.0) x.0 (ok j.0 (omega arith) b.0).items x.1 in
        let g = good_bytes B good f.0 t f.1 in
        ap is_record (joins C Q a (bytes_of (B f.0)) t L (λ i u v. under_of f.0 t i (a i) f.1 (ok i u v)) g.sized h) ∙ g.lies

    -- whole records are records
    whole_records : (Q : ℕ → Bool) (a : ℕ → Node) → ((j : ℕ) → j < C.n → Q j ≡ true → NodeOk C B node j (a j)) → WholeRecords C Q a
    whole_records Q a ok j l q t r e =
        let f = whole_found (PieceOf C B j) (WholeOf C B) t (a j).spare r (ok j l q).items.spared e in
        ap is_record f.2 ∙ (good_bytes B good f.0 t f.1).lies

    -- nothing else is met
    pub only_records : (Q : ℕ → Bool) (a : ℕ → Node) → ((j : ℕ) → j < C.n → Q j ≡ true → NodeOk C B node j (a j)) → RecordsAt C Q a
    only_records Q a ok = record { joins = joins_records Q a ok; wholes = whole_records Q a ok }

    pub record Given (Q : ℕ → Bool) (a : ℕ → Node) (x : Rebuilt) : Type 0 where
      pub whose : ℕ
      pub stamp : stamp_of (B whose) ≡ some x.stamp
      pub bytes : bytes_of (B whose) ≡ x.bytes
      pub above : NoLater (top_floor Q a lowest 0 C.n) x.stamp

    -- what is rebuilt is one write's record, under its own stamp
    pub rebuilt_from : (Q : ℕ → Bool) (a : ℕ → Node) → ((j : ℕ) → j < C.n → Q j ≡ true → NodeOk C B node j (a j)) → (x : Rebuilt) → rebuild C Q a ≡ some x → Given Q a x
    unfolding rebuild
    rebuilt_from Q a ok x e =
        let S : Stamp → Type 0 = λ s. (q : ℕ) × (stamp_of (B q) ≡ some s) in
        let all = in_every S Q a 0 C.n
        (λ j u v y. stamps_every (PieceOf C B j) (WholeOf C B) S (λ s b z. (z.0, z.1)) (λ s b z. (z.0, z.1)) (a j) (ok j (omega arith) y).items) in
        let b = best_is C Q a (top_floor Q a lowest 0 C.n) S (stamps Q a 0 C.n) all x e in
        let q = b.good.0 in
        let h = b.good.1 in
        record {
          whose = q;
          stamp = h;
          bytes = sym (record_is C Q a (bytes_of (B q)) x.stamp L (λ j u v. under_of q x.stamp j (a j) h (ok j u v)) (good_bytes B good q x.stamp h).sized x.bytes b.is);
          above = b.above;
        }

  -- any n - f nodes rebuild
  pub rebuilding : (σ : Segment) (H : History) → Inv C σ H → Rebuilding C H σ.node
  rebuilding σ H I Q quorum =
      let B = H.began in
      let a = σ.node in
      let t = top_floor Q a lowest 0 C.n in
      let sp = L.needed in
      let nn = L.nodes in
      let some_one : 1 ≤ tally Q 0 C.n = omega arith in
      let fl = top_floor_is (AFloor C B a) Q a C.n some_one (λ j u v. (I.nodes j u).base) in
      let ok = good_bytes B I.records fl.0 t fl.1 in
      let r = readable C L Q a (bytes_of (B fl.0)) quorum fl.2
      (λ j u v. under_of B a I.order.apart I.records fl.0 t j (a j) fl.1 (I.nodes j u))
      (whole_records B a I.order.apart I.records Q a (λ j u v. I.nodes j u)) ok.sized ok.lies in
      let x = some_of (rebuild C Q a) r in
      let g = rebuilt_from B a I.order.apart I.records Q a (λ j u v. I.nodes j u) x.0 x.1 in
      record {
        what = x.0;
        is = x.1;
        written = (g.whose, (g.stamp, g.bytes));
        recent = λ q s e y.
            let p = I.settled q s e y in
            let m = meet Q (λ i. reaches s (a i).floor) 0 C.n in
            let j = one (λ i. Q i && reaches s (a i).floor) 0 C.n (omega arith) in
            let b = and_parts (Q j.0) (reaches s (a j.0).floor) j.3 in
            let o = top_over Q a lowest 0 C.n j.0 j.1 j.2 b.0 in
            le_le s t x.0.stamp (le_le s (a j.0).floor t (not_below s (a j.0).floor b.1) o) g.above;
      }
