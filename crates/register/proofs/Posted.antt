-- What the mailboxes of a new round hold.
use Rattle.std.proofs.Common.{◌≡◌, ℕ, Bool, true, false, cond, ltb, arith}
use Rattle.register.specs.Machine.{Request, Answer, empty, waiting, answered, posted}

pub posted_ask : (n i : ℕ) (q q' : Request) → posted n q i ≡ waiting q' → q ≡ q'
posted_ask n i q q' e = go (ltb i n) e
  where
    go : (b : Bool) → cond b (waiting q) empty ≡ waiting q' → q ≡ q'
    go true e = cc
    go false e = absurd (let z : ◌≡◌ {A = ℕ} 0 1 = cc in omega arith)

pub posted_says : (n i : ℕ) (q : Request) (x : Answer) → posted n q i ≡ answered x → ⊥
posted_says n i q x e = go (ltb i n) e
  where
    go : (b : Bool) → cond b (waiting q) empty ≡ answered x → ⊥
    go true e = let z : ◌≡◌ {A = ℕ} 0 1 = cc in omega arith
    go false e = let z : ◌≡◌ {A = ℕ} 0 1 = cc in omega arith
