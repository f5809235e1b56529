-- The invariant holds of a segment just laid out, and so after every list.
use Rattle.std.proofs.Common.{◌≡◌, ℕ, ◌+◌, ◌*◌, ◌<◌, ◌≤◌, true, ◌⊎◌, List, [], ◌∷◌, length, Some as some, sym, refl, ◌∙◌, subst, inl, inr, mul-le-mul_right, arith}
use Rattle.std.proofs.lemmas.Bool.{lt-ltb, cases_eq}
use Rattle.code.specs.Meaning.{Meaning, Lawful}
use Rattle.register.specs.Tables.{upd}
use Rattle.register.specs.Stamps.{Stamp}
use Rattle.register.specs.Nodes.{Bytes, Spare, free, one_piece, one_record, Node, spare_bytes, held_bytes}
use Rattle.register.specs.Reading.{shelf_piece, node_stamps, shelf_stamps, spare_stamps}
use Rattle.register.specs.Machine.{Segment, Call, sign_on, sign_off, begin_write, begin_read, take, fetch, step, laid_out}
use Rattle.register.specs.History.{ended_as, Operation, nothing, a_write, History, start, history, entries, after, noted, stamp_of, Ended, Gave}
use Rattle.register.specs.Promises.{ARecord, Proper}
use Rattle.register.proofs.Order.{reaches, is_reached, le_itself, same_itself}
use Rattle.register.proofs.Counting.{filled}
use Rattle.register.proofs.NodeLaws.{keeps, keeps_shelf, spare_low}
use Rattle.register.proofs.Readable.{none_some}
use Rattle.register.proofs.Lean.{LeanNode}
use Rattle.register.proofs.Invariant.{NodeOk, Established, Settled, Inv}
use Rattle.register.proofs.Changes.{off_at, upd_case}
use Rattle.register.proofs.Steps.{step_holds}

proper_rest : (x : Call) (xs : List Call) → Proper (x ∷ xs) → Proper xs
proper_rest (sign_on c) xs p = p
proper_rest (sign_off c) xs p = p
proper_rest (begin_write c r) xs p = p.1
proper_rest (begin_read c m) xs p = p
proper_rest (take c i) xs p = p
proper_rest (fetch c i) xs p = p

-- at most 48 bytes
pub most : (C : Meaning) → Lawful C → (a : Node) → length a.shelf ≤ C.k → held_bytes C.w a ≤ 48
most C L a h =
    let m = mul-le-mul_right C.w h in
    let z = L.sizes in
    let o = mul-le-mul_right C.w L.needed in
    go a.spare (omega arith) (omega arith)
  where
    go : (x : Spare) → length a.shelf * C.w ≤ 24 → C.w ≤ 24 → length a.shelf * C.w + spare_bytes C.w x ≤ 48
    go free u v = omega arith
    go (one_piece s b) u v = omega arith
    go (one_record s b) u v = omega arith

module _ (C : Meaning) (L : Lawful C) (clients count : ℕ) (r : Bytes) (good : ARecord r) where
  -- the first stamp
  abbrev stamp₀ : Stamp
  stamp₀ = record { count = count; client = 0 }

  -- the first record, as an operation
  abbrev first_op : Operation
  first_op = a_write 0 r (ended_as stamp₀ 0)

  -- node i, just laid out
  abbrev new_node : ℕ → Node
  new_node i = record { floor = stamp₀; shelf = record { stamp = stamp₀; bytes = C.piece r i } ∷ []; spare = free }

  abbrev node₀ : ℕ → Node
  node₀ = (laid_out C clients count r).node

  first_at : (i : ℕ) → i < C.n → node₀ i ≡ new_node i
  unfolding laid_out
  first_at i l = rw (lt-ltb i C.n l)

  first_keeps : (j : ℕ) → keeps stamp₀ (new_node j) ≡ true
  unfolding shelf_piece
  first_keeps j = keeps_shelf stamp₀ (new_node j) (rw (same_itself stamp₀))

  first_established : Established C node₀ stamp₀
  first_established =
      let k = filled (λ j. keeps stamp₀ (node₀ j)) C.n (λ j l. rw (first_at j l) (first_keeps j)) in
      omega arith

  first_settled : Settled C node₀ stamp₀
  first_settled =
      let k = filled (λ j. reaches stamp₀ (node₀ j).floor) C.n (λ j l. rw (first_at j l) (is_reached stamp₀ stamp₀ (le_itself stamp₀))) in
      omega arith

  first_node : (i : ℕ) → NodeOk C (start count r).began node₀ i (new_node i)
  unfolding spare_low
  first_node i = record {
    low = refl;
    items = record { shelved = ((0, refl, refl), tt); spared = tt };
    base = (0, refl, first_established);
    room = L.needed;
  }

  first_lean : (i : ℕ) → LeanNode C (start count r).began 1 (new_node i)
  unfolding node_stamps shelf_stamps spare_stamps
  first_lean i = record {
    held = ((0, refl, le_itself stamp₀, λ q t e x l. absurd (omega arith)), tt);
    apart = (tt, tt);
    crowds = λ x. absurd (let z : ◌≡◌ {A = ℕ} 0 1 = cc in omega arith);
  }

  pub first_holds : Inv C (laid_out C clients count r) (start count r)
  unfolding laid_out
  first_holds =
      let case : (R : Operation → Type 0) (q : ℕ) → R (upd (λ _. nothing) 0 first_op q) → ((q ≡ 0) × R first_op) ⊎ ((q ≡ 0 → ⊥) × R nothing) =
      λ R q x. upd_case R (λ _. nothing) 0 first_op q x in
      record {
        clock = λ q l. off_at (λ _. nothing) 0 q first_op (λ e. omega arith);
        ends = λ q t e x. elim (case (λ v. Ended v t e) q x) [
          | inl u ↦ (let y = u.1.1.1 in let z : 0 ≡ e = cc in omega arith)
          | inr u ↦ absurd (let y = u.1.1.1 in let z : ◌≡◌ {A = ℕ} 0 1 = cc in omega arith)
        ];
        parted = λ q t e x. elim (case (λ v. Ended v t e) q x) [
          | inl u ↦ inl (let y = u.1.1.1 in let z : e ≡ 0 = cc in z)
          | inr u ↦ absurd (let y = u.1.1.1 in let z : ◌≡◌ {A = ℕ} 0 1 = cc in omega arith)
        ];
        latest = λ d. omega arith;
        owner = λ q t x. elim (case (λ v. stamp_of v ≡ some t) q x) [
          | inl u ↦ (let y = u.1 in let z : stamp₀ ≡ t = cc in rw (u.0, ← z) refl)
          | inr u ↦ none_some u.1
        ];
        records = λ q d b g x. elim (case (λ v. v ≡ a_write d b g) q x) [
          | inl u ↦ (let y = u.1 in let z : r ≡ b = cc in rw (← z) good)
          | inr u ↦ absurd (let y = u.1 in let z : ◌≡◌ {A = ℕ} 0 1 = cc in omega arith)
        ];
        order = record {
          apart = λ a b x h k. elim (case (λ v. stamp_of v ≡ some x) a h) [
            | inl u ↦ elim (case (λ v. stamp_of v ≡ some x) b k) [ inl v ↦ u.0 ∙ sym v.0 | inr v ↦ none_some v.1 ]
            | inr u ↦ none_some u.1
          ];
          kept = λ a b x y e h k l. elim (case (λ v. stamp_of v ≡ some y) b k) [ inl v ↦ absurd (let z = v.0 in omega arith) | inr v ↦ none_some v.1 ];
        };
        reads = record {
          written = λ a e x h. elim (case (λ v. Gave v x e) a h) [
            | inl u ↦ absurd (let y = u.1.1 in let z : ◌≡◌ {A = ℕ} 0 1 = cc in omega arith)
            | inr u ↦ absurd (let y = u.1.1 in let z : ◌≡◌ {A = ℕ} 0 1 = cc in omega arith)
          ];
          recent = λ a e x h q t e' k l. elim (case (λ v. Gave v x e) a h) [
            | inl u ↦ absurd (let y = u.1.1 in let z : ◌≡◌ {A = ℕ} 0 1 = cc in omega arith)
            | inr u ↦ absurd (let y = u.1.1 in let z : ◌≡◌ {A = ℕ} 0 1 = cc in omega arith)
          ];
        };
        settled = λ q t e x. elim (case (λ v. Ended v t e) q x) [
          | inl u ↦ (let y = u.1.1.1 in let z : stamp₀ ≡ t = cc in subst (Settled C node₀) z first_settled)
          | inr u ↦ absurd (let y = u.1.1.1 in let z : ◌≡◌ {A = ℕ} 0 1 = cc in omega arith)
        ];
        nodes = λ i l. subst (NodeOk C (start count r).began node₀ i) (sym (first_at i l)) (first_node i);
        clients = λ d. record {
          stores = λ i t F b e. let z : ◌≡◌ {A = ℕ} 0 1 = cc in omega arith;
          quiet = λ q h. elim (cases_eq q 0) [ inl e ↦ rw e refl | inr n ↦ rw (off_at (λ _. nothing) 0 q first_op n) refl ];
        };
        settles = λ d i t e. absurd (let z : ◌≡◌ {A = ℕ} 0 1 = cc in omega arith);
        unheld = λ d i t F b l e. absurd (let z : ◌≡◌ {A = ℕ} 0 1 = cc in omega arith);
        lean = λ i l. subst (LeanNode C (start count r).began 1) (sym (first_at i l)) (first_lean i);
      }

-- the induction over the list
pub after_holds : (C : Meaning) → Lawful C → (xs : List Call) (σ : Segment) (H : History) → Inv C σ H → Proper xs → Inv C (after C σ xs) (history H (entries C σ xs))
after_holds C L [] σ H I p = I
after_holds C L (x ∷ xs) σ H I p =
    after_holds C L xs (step C x σ).after (noted x (step C x σ).outcome H) (step_holds C L σ H I x xs p) (proper_rest x xs p)
