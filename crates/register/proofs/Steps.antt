-- Every call keeps the invariant.
use Rattle.std.proofs.Common.{◌≡◌, ℕ, suc, ◌+◌, ◌-◌, ◌<◌, ◌≤◌, Bool, true, false, cond, ◌&&◌, ltb, leb, List, ◌∷◌, Some as some, None as none, Option, sym, refl, ap, ◌∙◌, subst, ap₂}
use Rattle.std.proofs.lemmas.Bool.{leb-true, ltb-true}
use Rattle.code.specs.Meaning.{Meaning, Lawful}
use Rattle.register.specs.Tables.{upd, tally}
use Rattle.register.specs.Nodes.{Bytes}
use Rattle.register.specs.Reading.{Rebuilt, rebuild, top_count}
use Rattle.register.specs.Machine.{look, storing, settling, Answer, looked, stored, settled, Mail, empty, waiting, answered, Open, write_look, write_store, write_settle, read_look, Client, off, idle, busy, Segment, Call, sign_on, sign_off, begin_write, begin_read, take, fetch, Outcome, refused, kept, round, stamped, wrote, found, ended, Turn, Step, is_same, refuses, on_turn, off_turn, write_turn, read_turn, served, visit, found_turn, open_turn, mail_turn, fetch_turn, turned, visited, step}
use Rattle.register.specs.History.{passed, Operation, nothing, a_write, a_read, History, moved, noted}
use Rattle.register.specs.Promises.{ARecord, Proper}
use Rattle.register.proofs.Invariant.{ClientOk, Inv}
use Rattle.register.proofs.Changes.{with_node, with_operation, upd_same, same_ops, tick}
use Rattle.register.proofs.Takes.{look_taken, store_taken, settle_taken}
use Rattle.register.proofs.Begins.{write_begun, read_begun}
use Rattle.register.proofs.Closes.{look_kept, look_failed, look_stamped, store_kept, store_closed, settle_kept, settle_closed, read_kept, read_again, read_failed, read_found}

-- the two ways of a test
pub by_test : {A : Type 0} (P : A → Type 0) (b : Bool) (x y : A) → (b ≡ true → P x) → (b ≡ false → P y) → P (cond b x y)
by_test P true x y h k = h refl
by_test P false x y h k = k refl

-- outcomes that move no operation
refused_still : (p e : ℕ) (x : Operation) → moved p (refused e) x ≡ x
refused_still p e nothing = refl
refused_still p e (a_write c r g) = refl
refused_still p e (a_read c g) = refl

kept_still : (p : ℕ) (x : Operation) → moved p kept x ≡ x
kept_still p nothing = refl
kept_still p (a_write c r g) = refl
kept_still p (a_read c g) = refl

round_still : (p : ℕ) (x : Operation) → moved p round x ≡ x
round_still p nothing = refl
round_still p (a_write c r g) = refl
round_still p (a_read c g) = refl

module _ (C : Meaning) (L : Lawful C) (σ : Segment) (H : History) (I : Inv C σ H) where
  -- one more entry that begins and ends nothing
  abbrev Ticked : Segment → Type 0
  Ticked τ = Inv C τ (passed H)

  pub entry : (c : ℕ) (x : Client) → σ.client c ≡ x → ClientOk C H.began σ.node (σ.mail c) (H.latest c) c x
  entry c x e = subst (ClientOk C H.began σ.node (σ.mail c) (H.latest c) c) e (I.clients c)

  -- a turn that changes nothing
  abbrev unchanged : ℕ → Client → Segment
  unchanged c x = record { clients = σ.clients; node = σ.node; mail = upd σ.mail c (σ.mail c); client = upd σ.client c x }

  unchanged_is : (c : ℕ) (x : Client) → σ.client c ≡ x → unchanged c x ≡ σ
  unchanged_is c x e =
      ap₂ (λ u v. record { clients = σ.clients; node = σ.node; mail = u; client = v }) (upd_same σ.mail c)
      (ap (upd σ.client c) (sym e) ∙ upd_same σ.client c)

  refused_holds : (c : ℕ) (x : Client) → σ.client c ≡ x → Ticked (unchanged c x)
  refused_holds c x e = subst Ticked (sym (unchanged_is c x e)) (tick C σ H I)

  -- only the entry of c changes
  only_entry : (c : ℕ) (x : Client) → ClientOk C H.began σ.node (σ.mail c) (H.latest c) c x → Ticked (unchanged c x)
  only_entry c x h = same_ops C σ H I c (σ.mail c) x h (I.settles c) (I.unheld c)

  on_holds : (c : ℕ) (x : Client) → σ.client c ≡ x → Ticked (turned σ c (on_turn x (σ.mail c))).after
  unfolding on_turn
  on_holds c off e = only_entry c (idle none) (entry c off e)
  on_holds c (idle l) e = refused_holds c (idle l) e
  on_holds c (busy l o) e = refused_holds c (busy l o) e

  off_holds : (c : ℕ) (x : Client) → σ.client c ≡ x → Ticked (turned σ c (off_turn x (σ.mail c))).after
  unfolding off_turn
  off_holds c off e = refused_holds c off e
  off_holds c (idle l) e = only_entry c off (entry c (idle l) e)
  off_holds c (busy l o) e = refused_holds c (busy l o) e

  -- what a client's turn after the call x keeps
  abbrev Turns : Call → ℕ → Turn → Type 0
  Turns x c t = Inv C (turned σ c t).after (noted x t.outcome H)

  write_holds : (c : ℕ) (r : Bytes) → ARecord r → (x : Client) → σ.client c ≡ x → Turns (begin_write c r) c (write_turn C r x (σ.mail c))
  unfolding write_turn
  write_holds c r v off e = refused_holds c off e
  write_holds c r v (idle l) e = write_begun C σ H I c l r v (entry c (idle l) e)
  write_holds c r v (busy l o) e = refused_holds c (busy l o) e

  read_holds : (c k : ℕ) (x : Client) → σ.client c ≡ x → Turns (begin_read c k) c (read_turn C k x (σ.mail c))
  unfolding read_turn
  read_holds c k off e = refused_holds c off e
  read_holds c k (idle l) e =
      by_test (Turns (begin_read c k) c) (leb 1 k && leb k 250) _ _ (λ _. read_begun C σ H I c l k (entry c (idle l) e)) (λ _. refused_holds c (idle l) e)
  read_holds c k (busy l o) e = refused_holds c (busy l o) e

  -- a mailbox in which nothing waits stays, and so does the node
  unvisited : (c i : ℕ) (x : Mail) → σ.mail c i ≡ x
      → Ticked (with_node σ c i (σ.node i) x)
  unvisited c i x e =
      subst Ticked
      (sym (ap₂ (λ u v. record { clients = σ.clients; node = u; mail = v; client = σ.client }) (upd_same σ.node i)
      (ap (upd σ.mail c) (ap (upd (σ.mail c) i) (sym e) ∙ upd_same (σ.mail c) i) ∙ upd_same σ.mail c))) (tick C σ H I)

  take_holds : (c i : ℕ) → i < C.n → (x : Mail) → σ.mail c i ≡ x → Ticked (visited σ c i (visit C i (σ.node i) x)).after
  unfolding visit served
  take_holds c i l empty e = unvisited c i empty e
  take_holds c i l (answered x) e = unvisited c i (answered x) e
  take_holds c i l (waiting look) e = look_taken C σ H I c i l
  take_holds c i l (waiting (storing s F r)) e = store_taken C σ H I c i l s F r e
  take_holds c i l (waiting (settling s)) e = settle_taken C σ H I c i l s e

  module _ (c i : ℕ) where
    -- a fetch that moves no operation
    fetch_still : (τ : Segment) (o : Outcome) → ((x : Operation) → moved H.next o x ≡ x) → Ticked τ → Inv C τ (noted (fetch c i) o H)
    fetch_still τ o k h =
        subst (λ z. Inv C τ (record { next = suc H.next; began = z; latest = H.latest }))
        (sym (ap (upd H.began (H.latest c)) (k (H.began (H.latest c))) ∙ upd_same H.began (H.latest c))) h

    -- a fetch that makes x of its client's operation
    fetch_moved : (τ : Segment) (o : Outcome) (x : Operation) → moved H.next o (H.began (H.latest c)) ≡ x
        → Inv C τ (with_operation H c (H.latest c) x) → Inv C τ (noted (fetch c i) o H)
    fetch_moved τ o x e h =
        subst (λ z. Inv C τ (record { next = suc H.next; began = upd H.began (H.latest c) z; latest = H.latest })) (sym e)
        (subst (λ z. Inv C τ (record { next = suc H.next; began = upd H.began (H.latest c) x; latest = z })) (upd_same H.latest c) h)

    fetch_refused : (k : ℕ) (x : Client) → σ.client c ≡ x → Turns (fetch c i) c (refuses k x (σ.mail c))
    fetch_refused k x e = fetch_still (unchanged c x) (refused k) (refused_still H.next k) (refused_holds c x e)

    abbrev full : (ℕ → Bool) → Bool
    full got = leb (C.n - C.f) (tally (upd got i true) 0 C.n)

    open_holds : (l : Option Bytes) (o : Open) → σ.client c ≡ busy l o → (x : Answer) → σ.mail c i ≡ answered x
        → Turns (fetch c i) c (open_turn C c i (σ.mail c) l o x)
    open_holds l (write_look r got ans) e (looked a) said =
        let h = entry c (busy l (write_look r got ans)) e in
        let got' = upd got i true in
        let ans' = upd ans i a in
        by_test (Turns (fetch c i) c) (full got) _ _
        (λ q.
        by_test (Turns (fetch c i) c) (leb 999999999 (top_count got' ans' 0 C.n)) _ _
        (λ _. fetch_moved _ (ended 17) _ (ap (moved H.next (ended 17)) h.op) (look_failed C L σ H I c l i r got ans a said h))
        (λ _. fetch_moved _ (stamped (record { count = top_count got' ans' 0 C.n + 1; client = c })) _
        (ap (moved H.next (stamped (record { count = top_count got' ans' 0 C.n + 1; client = c }))) h.op)
        (look_stamped C L σ H I c l i r got ans a said h (leb-true _ _ q) _ _ refl refl)))
        (λ _. fetch_still _ kept (kept_still H.next) (look_kept C L σ H I c l i r got ans a said h))
    open_holds l (write_look r got ans) e stored said = fetch_refused 16 (busy l (write_look r got ans)) e
    open_holds l (write_look r got ans) e settled said = fetch_refused 16 (busy l (write_look r got ans)) e
    open_holds l (write_store r s F got) e (looked a) said = fetch_refused 16 (busy l (write_store r s F got)) e
    open_holds l (write_store r s F got) e stored said =
        let h = entry c (busy l (write_store r s F got)) e in
        by_test (Turns (fetch c i) c) (full got) _ _
        (λ q. fetch_still _ round (round_still H.next) (store_closed C L σ H I c l i r s F got said h (leb-true _ _ q)))
        (λ _. fetch_still _ kept (kept_still H.next) (store_kept C L σ H I c l i r s F got said h))
    open_holds l (write_store r s F got) e settled said = fetch_refused 16 (busy l (write_store r s F got)) e
    open_holds l (write_settle r s got) e (looked a) said = fetch_refused 16 (busy l (write_settle r s got)) e
    open_holds l (write_settle r s got) e stored said = fetch_refused 16 (busy l (write_settle r s got)) e
    open_holds l (write_settle r s got) e settled said =
        let h = entry c (busy l (write_settle r s got)) e in
        by_test (Turns (fetch c i) c) (full got) _ _
        (λ q. fetch_moved _ (wrote s) _ (ap (moved H.next (wrote s)) h.op) (settle_closed C L σ H I c l i r s got said h (leb-true _ _ q)))
        (λ _. fetch_still _ kept (kept_still H.next) (settle_kept C L σ H I c l i r s got said h))
    open_holds l (read_look k u got ans) e (looked a) said =
        let h = entry c (busy l (read_look k u got ans)) e in
        by_test (Turns (fetch c i) c) (full got) _ _
        (λ q. go (rebuild C (upd got i true) (upd ans i a)) refl h (leb-true _ _ q))
        (λ _. fetch_still _ kept (kept_still H.next) (read_kept C L σ H I c l i k u got ans a said h))
      where
        go : (x : Option Rebuilt) → rebuild C (upd got i true) (upd ans i a) ≡ x → ClientOk C H.began σ.node (σ.mail c) (H.latest c) c (busy l (read_look k u got ans))
            → C.n - C.f ≤ tally (upd got i true) 0 C.n → Turns (fetch c i) c (found_turn C c i (σ.mail c) l k u x)
        go (some x) q h f = fetch_moved _ (found u x (is_same l x.bytes)) _ (ap (moved H.next (found u x (is_same l x.bytes))) h.op) (read_found C L σ H I c l i k u got ans a said h f x q)
        go none q h f =
            by_test (Turns (fetch c i) c) (ltb u k) _ _
            (λ _. fetch_still _ round (round_still H.next) (read_again C L σ H I c l i k u got ans a said h))
            (λ _. fetch_moved _ (ended 18) _ (ap (moved H.next (ended 18)) h.op) (read_failed C L σ H I c l i k u got ans a said h))
    open_holds l (read_look k u got ans) e stored said = fetch_refused 16 (busy l (read_look k u got ans)) e
    open_holds l (read_look k u got ans) e settled said = fetch_refused 16 (busy l (read_look k u got ans)) e

    mail_holds : (l : Option Bytes) (o : Open) → σ.client c ≡ busy l o → (x : Mail) → σ.mail c i ≡ x → Turns (fetch c i) c (mail_turn C c i (σ.mail c) l o x)
    mail_holds l o e empty f = fetch_refused 16 (busy l o) e
    mail_holds l o e (waiting q) f = fetch_refused 16 (busy l o) e
    mail_holds l o e (answered x) f = open_holds l o e x f

    fetch_holds : (x : Client) → σ.client c ≡ x → Turns (fetch c i) c (fetch_turn C c i x (σ.mail c))
    unfolding fetch_turn
    fetch_holds off e = fetch_refused 11 off e
    fetch_holds (idle l) e = fetch_refused 15 (idle l) e
    fetch_holds (busy l o) e = mail_holds l o e (σ.mail c i) refl

    unfetched : (k : ℕ) → Inv C σ (noted (fetch c i) (refused k) H)
    unfetched k = fetch_still σ (refused k) (refused_still H.next k) (tick C σ H I)

  -- what the step of the call x keeps
  abbrev Holds : Call → Step → Type 0
  Holds x d = Inv C d.after (noted x d.outcome H)

  pub step_holds : (x : Call) (xs : List Call) → Proper (x ∷ xs) → Inv C (step C x σ).after (noted x (step C x σ).outcome H)
  unfolding step
  step_holds (sign_on c) xs p = by_test (Holds (sign_on c)) (ltb c σ.clients) _ _ (λ _. on_holds c (σ.client c) refl) (λ _. tick C σ H I)
  step_holds (sign_off c) xs p = by_test (Holds (sign_off c)) (ltb c σ.clients) _ _ (λ _. off_holds c (σ.client c) refl) (λ _. tick C σ H I)
  step_holds (begin_write c r) xs p =
      by_test (Holds (begin_write c r)) (ltb c σ.clients) _ _ (λ _. write_holds c r p.0 (σ.client c) refl) (λ _. tick C σ H I)
  step_holds (begin_read c k) xs p = by_test (Holds (begin_read c k)) (ltb c σ.clients) _ _ (λ _. read_holds c k (σ.client c) refl) (λ _. tick C σ H I)
  step_holds (take c i) xs p =
      by_test (Holds (take c i)) (ltb c σ.clients) _ _
      (λ _. by_test (Holds (take c i)) (ltb i C.n) _ _ (λ n. take_holds c i (ltb-true i C.n n) (σ.mail c i) refl) (λ _. tick C σ H I)) (λ _. tick C σ H I)
  step_holds (fetch c i) xs p =
      by_test (Holds (fetch c i)) (ltb c σ.clients) _ _
      (λ _. by_test (Holds (fetch c i)) (ltb i C.n) _ _ (λ _. fetch_holds c i (σ.client c) refl) (λ _. unfetched c i 9)) (λ _. unfetched c i 8)
