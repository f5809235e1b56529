-- A begin keeps the invariant.
use Rattle.std.proofs.Common.{◌≡◌, ℕ, true, false, Some as some, None as none, Option, sym, refl, ap, ◌∙◌, inl, inr, arith}
use Rattle.std.proofs.lemmas.Bool.{eqb-true}
use Rattle.code.specs.Meaning.{Meaning}
use Rattle.register.specs.Tables.{upd}
use Rattle.register.specs.Stamps.{Stamp}
use Rattle.register.specs.Nodes.{Bytes}
use Rattle.register.specs.Reading.{Rebuilt}
use Rattle.register.specs.Machine.{posted, look, storing, settling, looked, write_look, read_look, busy, Segment, nobody, no_answers}
use Rattle.register.specs.History.{Write, unstamped, stamped_as, ended_as, failed, reading, Operation, nothing, a_write, a_read, History, stamp_of, Ended, Gave, open_after}
use Rattle.register.specs.Promises.{ARecord}
use Rattle.register.proofs.Order.{le_itself}
use Rattle.register.proofs.Posted.{posted_ask, posted_says}
use Rattle.register.proofs.Readable.{none_some}
use Rattle.register.proofs.Invariant.{by, is_open, Ops, NoStores, Others, Mine, Settles, LookOk, IdleOk, Inv}
use Rattle.register.proofs.Clients.{look_unheld}
use Rattle.register.proofs.Changes.{with_client, with_operation, at, off_at, upd_case, Change, changed}

-- a stamped write that is not open has ended
pub closed_ended : (o : Operation) (s : Stamp) → stamp_of o ≡ some s → is_open o ≡ false → (e : ℕ) × Ended o s e
closed_ended nothing s h k = none_some h
closed_ended (a_write c r unstamped) s h k = none_some h
closed_ended (a_write c r (stamped_as t)) s h k = absurd (let z : ◌≡◌ {A = ℕ} 0 1 = cc in omega arith)
closed_ended (a_write c r (ended_as t e)) s h k = (e, (c, (r, cc)))
closed_ended (a_write c r (failed e)) s h k = none_some h
closed_ended (a_read c x) s h k = none_some h

-- an operation of client c that just began
pub record New (c : ℕ) (o : Operation) : Type 0 where
  pub stamp : stamp_of o ≡ none
  pub mine : (d : ℕ) → by d o ≡ true → d ≡ c
  pub ends : (s : Stamp) (e : ℕ) → Ended o s e → ⊥
  pub reads : (x : Rebuilt) (e : ℕ) → Gave o x e → ⊥
  pub good : (d : ℕ) (r : Bytes) (g : Write) → o ≡ a_write d r g → ARecord r

module _ (C : Meaning) (σ : Segment) (H : History) (I : Inv C σ H) (c : ℕ) where
  module _ (o : Operation) (n : New c o) where
    new_change : Change C σ H c H.next o
    new_change =
        let e = I.clock H.next (omega arith) in record {
          place = omega arith;
          later = record {
            stamp = λ s h. none_some (sym (ap stamp_of e) ∙ h);
            bytes = λ s h. none_some (sym (ap stamp_of e) ∙ h);
          };
          mine = n.mine;
          was = λ d h. absurd (let z : ◌≡◌ {A = ℕ} 0 1 = let y = sym (ap (by d) e) ∙ h in cc in omega arith);
          begun = λ _. refl;
          opens = λ t l h. absurd (let z : ◌≡◌ {A = ℕ} 0 1 = let y = sym (ap (open_after t H.next) e) ∙ h in cc in omega arith);
          ends = λ s x h. absurd (n.ends s x h);
          owns = λ s h. none_some (sym n.stamp ∙ h);
          good = n.good;
          stamps = λ s h. none_some (sym n.stamp ∙ h);
          reads = λ x y h. absurd (n.reads x y h);
        }

    new_looks : LookOk C (upd H.began H.next o) σ.node (posted C.n look) H.next nobody no_answers
    new_looks = record {
      base = λ i. (σ.node i).floor;
      under = λ i. le_itself (σ.node i).floor;
      mailed = λ i a l e. absurd (posted_says C.n i look (looked a) e);
      gathered = λ i l e. absurd (let z : ◌≡◌ {A = ℕ} 0 1 = cc in omega arith);
      past = λ q s e h l. elim (upd_case (λ v. Ended v s e) H.began H.next o q h) [ inl u ↦ absurd (n.ends s e u.1) | inr u ↦ I.settled q s e u.1 ];
    }

    module _ (idle-ok : IdleOk C H.began (σ.mail c) c) where
      new_others : Others (upd H.began H.next o) H.next c
      new_others q h k = let e = off_at H.began H.next q o k in rw e (idle-ok.quiet q (rw e at h))

      new_mine : Mine (upd H.began H.next o) H.next c
      new_mine q s h k t =
          let e = off_at H.began H.next q o k in
          let x = closed_ended (H.began q) s (rw e at t) (idle-ok.quiet q (rw e at h)) in
          (x.0, rw e x.1, I.ends q s x.0 x.1)

  new_stores : NoStores (posted C.n look)
  new_stores i s F r e = let y = posted_ask C.n i look (storing s F r) e in let z : ◌≡◌ {A = ℕ} 0 1 = cc in omega arith

  new_settles : (B : Ops) → Settles C B σ.node (posted C.n look)
  new_settles B i s e = absurd (let y = posted_ask C.n i look (settling s) e in let z : ◌≡◌ {A = ℕ} 0 1 = cc in omega arith)

  write_new : (r : Bytes) → ARecord r → New c (a_write c r unstamped)
  write_new r v = record {
    stamp = refl;
    mine = λ d h. sym (eqb-true c d h);
    ends = λ s e h. let z : ◌≡◌ {A = ℕ} 0 1 = let y = h.1.1 in cc in omega arith;
    reads = λ x e h. let z : ◌≡◌ {A = ℕ} 0 1 = let y = h.1 in cc in omega arith;
    good = λ d r' g h. let z : r ≡ r' = cc in rw (← z) v;
  }

  read_new : New c (a_read c reading)
  read_new = record {
    stamp = refl;
    mine = λ d h. sym (eqb-true c d h);
    ends = λ s e h. let z : ◌≡◌ {A = ℕ} 0 1 = let y = h.1.1 in cc in omega arith;
    reads = λ x e h. let z : ◌≡◌ {A = ℕ} 0 1 = let y = h.1 in cc in omega arith;
    good = λ d r' g h. absurd (let z : ◌≡◌ {A = ℕ} 0 1 = cc in omega arith);
  }

  pub write_begun : (l : Option Bytes) (r : Bytes) → ARecord r → IdleOk C H.began (σ.mail c) c
      → Inv C (with_client σ c (posted C.n look) (busy l (write_look r nobody no_answers))) (with_operation H c H.next (a_write c r unstamped))
  write_begun l r v k =
      let n = write_new r v in
      let o = a_write c r unstamped in
      changed C σ H I c H.next o (new_change o n) (posted C.n look) (busy l (write_look r nobody no_answers))
      (record { op = at H.began H.next o; looks = new_looks o n; stores = new_stores; others = new_others o n k; mine = new_mine o n k })
      (new_settles (upd H.began H.next o)) (look_unheld C σ.node)

  pub read_begun : (l : Option Bytes) (m : ℕ) → IdleOk C H.began (σ.mail c) c
      → Inv C (with_client σ c (posted C.n look) (busy l (read_look m 1 nobody no_answers))) (with_operation H c H.next (a_read c reading))
  read_begun l m k =
      let n = read_new in
      let o = a_read c reading in
      changed C σ H I c H.next o (new_change o n) (posted C.n look) (busy l (read_look m 1 nobody no_answers))
      (record { op = at H.began H.next o; looks = new_looks o n; stores = new_stores; others = new_others o n k })
      (new_settles (upd H.began H.next o)) (look_unheld C σ.node)
