-- That a write comes to its end: three rounds with n - f nodes are enough, whatever other clients do meanwhile.
use Rattle.std.specs.Prelude.{◌≡◌, ℕ, ◌-◌, cond, ◌⊎◌, List, [], ◌∷◌, ◌++◌, None as none, ◌==◌}
use Rattle.code.specs.Meaning.{Meaning, Chosen}
use Rattle.register.specs.Stamps.{Stamp}
use Rattle.register.specs.Nodes.{Bytes}
use Rattle.register.specs.Machine.{Segment, Call, sign_on, sign_off, begin_write, begin_read, take, fetch, done, lay_out_refusal, laid_out, step}
use Rattle.register.specs.History.{ended_as, failed, Operation, a_write, History, start, history, entries, after}
use Rattle.register.specs.Promises.{ARecord, Proper}

-- The client of a call.
abbrev pub caller : Call → ℕ
caller (sign_on c) = c
caller (sign_off c) = c
caller (begin_write c r) = c
caller (begin_read c allowed) = c
caller (take c i) = c
caller (fetch c i) = c

-- The calls of client c, in their order.
abbrev pub own : ℕ → List Call → List Call
own c [] = []
own c (x ∷ xs) = cond (caller x == c) (x ∷ own c xs) (own c xs)

-- A round of client c at some nodes: at each a take, then a fetch.
abbrev pub round_at : ℕ → List ℕ → List Call
round_at c [] = []
round_at c (i ∷ is) = take c i ∷ fetch c i ∷ round_at c is

-- The operation is client c's write of r, and has ended: under its stamp, or with ending 17.
abbrev pub Over : ℕ → Bytes → Operation → Type 0
Over c r o = ((s : Stamp) × ((e : ℕ) × (o ≡ a_write c r (ended_as s e)))) ⊎ ((e : ℕ) × (o ≡ a_write c r (failed e)))

-- In the segment σ with the history h, a write that client c begins has ended once c's next calls were three rounds at n - f nodes each.
abbrev pub ComesToEnd : Meaning → Segment → History → Type 0
ComesToEnd m σ h =
    (c : ℕ) (r : Bytes) (ys : List Call) (is js ks : List ℕ) → ARecord r → Proper ys
    → Chosen (m.n - m.f) m.n is → Chosen (m.n - m.f) m.n js → Chosen (m.n - m.f) m.n ks
    → (step m (begin_write c r) σ).outcome ≡ done → own c ys ≡ round_at c is ++ (round_at c js ++ round_at c ks)
    → Over c r ((history h (entries m σ (begin_write c r ∷ ys))).began h.next)

-- This is so after every list of calls from any segment just laid out.
abbrev pub Progress : Meaning → Type 0
Progress m =
    (clients count : ℕ) (r : Bytes) → lay_out_refusal clients count ≡ none → ARecord r → (xs : List Call) → Proper xs
    → ComesToEnd m (after m (laid_out m clients count r) xs) (history (start count r) (entries m (laid_out m clients count r) xs))
