-- One mailbox changes, or one answer is fetched.
use Rattle.std.proofs.Common.{◌≡◌, ℕ, Bool, true, inl, inr, arith}
use Rattle.code.specs.Meaning.{Meaning}
use Rattle.register.specs.Tables.{upd}
use Rattle.register.specs.Stamps.{Stamp, NoLater}
use Rattle.register.specs.Nodes.{Bytes, Node}
use Rattle.register.specs.Machine.{posted, look, storing, settling, looked, stored, settled, Mail, empty, waiting, answered, write_look, write_store, write_settle, read_look, Client, off, idle, busy}
use Rattle.register.proofs.Posted.{posted_ask}
use Rattle.register.proofs.Invariant.{Ops, NodeOk, LookOk, NoStores, Stored, ClientOk, Unheld}
use Rattle.register.proofs.Changes.{at, off_at, upd_case}

-- what a client's round wants to be true of node i when an answer to its Store or its Settle lies there
abbrev pub HasStored : Meaning → (ℕ → Node) → ℕ → Client → Type 0
HasStored C node i off = Unit {0}
HasStored C node i (idle l) = Unit {0}
HasStored C node i (busy l (write_look r got ans)) = Unit {0}
HasStored C node i (busy l (write_store r s F got)) = Stored C node s i
HasStored C node i (busy l (write_settle r s got)) = Unit {0}
HasStored C node i (busy l (read_look k u got ans)) = Unit {0}

abbrev pub HasPassed : (ℕ → Node) → ℕ → Client → Type 0
HasPassed node i off = Unit {0}
HasPassed node i (idle l) = Unit {0}
HasPassed node i (busy l (write_look r got ans)) = Unit {0}
HasPassed node i (busy l (write_store r s F got)) = Unit {0}
HasPassed node i (busy l (write_settle r s got)) = NoLater s (node i).floor
HasPassed node i (busy l (read_look k u got ans)) = Unit {0}

-- what a new content y of the mailbox at node i must be, for a client x
pub record Fits (C : Meaning) (B : Ops) (node : ℕ → Node) (i : ℕ) (x : Client) (y : Mail) : Type 0 where
  pub looks : (b : Node) → y ≡ answered (looked b) → (b ≡ node i) × NodeOk C B node i (node i)
  pub stores : (s F : Stamp) (r : Bytes) → y ≡ waiting (storing s F r) → ⊥
  pub settles : (s : Stamp) → y ≡ waiting (settling s) → ⊥
  pub has : y ≡ answered stored → HasStored C node i x
  pub passed : y ≡ answered settled → HasPassed node i x

module _ (C : Meaning) (B : Ops) (node : ℕ → Node) (m : ℕ → Mail) (p d i : ℕ) where
  no_stores : (x : Client) (y : Mail) → Fits C B node i x y → NoStores m → NoStores (upd m i y)
  no_stores x y f h j s F r e = elim (upd_case (λ v. v ≡ waiting (storing s F r)) m i y j e) [ inl u ↦ f.stores s F r u.1 | inr u ↦ h j s F r u.1 ]

  look_mail : (x : Client) (y : Mail) (got : ℕ → Bool) (ans : ℕ → Node) → Fits C B node i x y → LookOk C B node m p got ans → LookOk C B node (upd m i y) p got ans
  look_mail x y got ans f h = record {
    base = h.base;
    under = h.under;
    mailed = λ j a l e.
        elim (upd_case (λ v. v ≡ answered (looked a)) m i y j e) [
          | inl u ↦
              let g = f.looks a u.1 in
              let b = h.under i in
              rw (u.0, g.0) (b, g.1)
          | inr u ↦ h.mailed j a l u.1
        ];
    gathered = h.gathered;
    past = h.past;
  }

  pub client_mail : (x : Client) (y : Mail) → Fits C B node i x y → ClientOk C B node m p d x → ClientOk C B node (upd m i y) p d x
  client_mail off y f h = record { stores = no_stores off y f h.stores; quiet = h.quiet }
  client_mail (idle l) y f h = record { stores = no_stores (idle l) y f h.stores; quiet = h.quiet }
  client_mail (busy l (write_look r got ans)) y f h = record {
    op = h.op;
    looks = look_mail (busy l (write_look r got ans)) y got ans f h.looks;
    stores = no_stores (busy l (write_look r got ans)) y f h.stores;
    others = h.others;
    mine = h.mine;
  }
  client_mail (busy l (write_store r s F got)) y f h = record {
    op = h.op;
    floor = h.floor;
    less = h.less;
    past = h.past;
    gathered = h.gathered;
    mailed = λ j e. elim (upd_case (λ v. v ≡ answered stored) m i y j e) [ inl u ↦ rw u.0 (f.has u.1) | inr u ↦ h.mailed j u.1 ];
    asked = λ j s' F' r' e. elim (upd_case (λ v. v ≡ waiting (storing s' F' r')) m i y j e) [ inl u ↦ absurd (f.stores s' F' r' u.1) | inr u ↦ h.asked j s' F' r' u.1 ];
    others = h.others;
  }
  client_mail (busy l (write_settle r s got)) y f h = record {
    op = h.op;
    gathered = h.gathered;
    mailed = λ j e. elim (upd_case (λ v. v ≡ answered settled) m i y j e) [ inl u ↦ rw u.0 (f.passed u.1) | inr u ↦ h.mailed j u.1 ];
    asked = λ j s' e. elim (upd_case (λ v. v ≡ waiting (settling s')) m i y j e) [ inl u ↦ absurd (f.settles s' u.1) | inr u ↦ h.asked j s' u.1 ];
    stores = no_stores (busy l (write_settle r s got)) y f h.stores;
    others = h.others;
  }
  client_mail (busy l (read_look k u got ans)) y f h = record {
    op = h.op;
    looks = look_mail (busy l (read_look k u got ans)) y got ans f h.looks;
    stores = no_stores (busy l (read_look k u got ans)) y f h.stores;
    others = h.others;
  }

  -- a mailbox is emptied
  pub nil_fits : (x : Client) → Fits C B node i x empty
  nil_fits x = record {
    looks = λ b e. absurd (let z : ◌≡◌ {A = ℕ} 0 1 = cc in omega arith);
    stores = λ s F r e. let z : ◌≡◌ {A = ℕ} 0 1 = cc in omega arith;
    settles = λ s e. let z : ◌≡◌ {A = ℕ} 0 1 = cc in omega arith;
    has = λ e. absurd (let z : ◌≡◌ {A = ℕ} 0 1 = cc in omega arith);
    passed = λ e. absurd (let z : ◌≡◌ {A = ℕ} 0 1 = cc in omega arith);
  }

  -- one more answer
  pub look_more : (got : ℕ → Bool) (ans : ℕ → Node) (a : Node) → m i ≡ answered (looked a) → LookOk C B node m p got ans → LookOk C B node (upd m i empty) p (upd got i true) (upd ans i a)
  unfolding look_mail
  look_more got ans a e h = record {
    base = h.base;
    under = h.under;
    mailed = λ j b l x. (look_mail off empty got ans (nil_fits off) h).mailed j b l x;
    gathered = λ j l x.
        elim (upd_case (λ v. v ≡ true) got i true j x) [
          | inl u ↦ rw (u.0, at ans i a) (h.mailed i a (rw u.0 at l) e)
          | inr u ↦ rw (off_at ans i j a u.0) (h.gathered j l u.1)
        ];
    past = h.past;
  }

pub nil_stores : (m : ℕ → Mail) (i : ℕ) → NoStores m → NoStores (upd m i empty)
nil_stores m i h j s F r e =
    elim (upd_case (λ v. v ≡ waiting (storing s F r)) m i empty j e) [ inl u ↦ (let y = u.1 in let z : ◌≡◌ {A = ℕ} 0 1 = cc in omega arith) | inr u ↦ h j s F r u.1 ]

pub nil_settles : (m : ℕ → Mail) (i : ℕ) (P : Stamp → Type 0) → ((j : ℕ) (s : Stamp) → m j ≡ waiting (settling s) → P s) → (j : ℕ) (s : Stamp) → upd m i empty j ≡ waiting (settling s) → P s
nil_settles m i P h j s e =
    elim (upd_case (λ v. v ≡ waiting (settling s)) m i empty j e) [ inl u ↦ absurd (let y = u.1 in let z : ◌≡◌ {A = ℕ} 0 1 = cc in omega arith) | inr u ↦ h j s u.1 ]

-- one more fetched
pub fetched_more : (got : ℕ → Bool) (i : ℕ) (P : ℕ → Type 0) → P i → ((j : ℕ) → got j ≡ true → P j) → (j : ℕ) → upd got i true j ≡ true → P j
fetched_more got i P h k j e = elim (upd_case (λ v. v ≡ true) got i true j e) [ inl u ↦ rw u.0 h | inr u ↦ k j u.1 ]

pub nil_unheld : (C : Meaning) (node : ℕ → Node) (m : ℕ → Mail) (i : ℕ) → Unheld C node m → Unheld C node (upd m i empty)
nil_unheld C node m i h j s F r l e =
    elim (upd_case (λ v. v ≡ waiting (storing s F r)) m i empty j e) [ inl u ↦ absurd (let y = u.1 in let z : ◌≡◌ {A = ℕ} 0 1 = cc in omega arith) | inr u ↦ h j s F r l u.1 ]

pub look_unheld : (C : Meaning) (node : ℕ → Node) → Unheld C node (posted C.n look)
look_unheld C node i s F r l e = absurd (let y = posted_ask C.n i look (storing s F r) e in let z : ◌≡◌ {A = ℕ} 0 1 = cc in omega arith)

pub settle_unheld : (C : Meaning) (node : ℕ → Node) (t : Stamp) → Unheld C node (posted C.n (settling t))
settle_unheld C node t i s F r l e = absurd (let y = posted_ask C.n i (settling t) (storing s F r) e in let z : ◌≡◌ {A = ℕ} 0 1 = cc in omega arith)
