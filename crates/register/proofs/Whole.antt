-- The promises, and that bytes that are no record are never met.
use Rattle.std.proofs.Common.{ℕ, ◌+◌, ◌*◌, ◌/◌, ◌≤◌, List, ap, mul-le-mul_right, arith}
use Rattle.std.proofs.lemmas.Nat.{le-div}
use Rattle.code.specs.Meaning.{Meaning, Lawful}
use Rattle.register.specs.Nodes.{Bytes, held_bytes}
use Rattle.register.specs.Machine.{Segment, Call, laid_out}
use Rattle.register.specs.History.{History, start, history, entries, after}
use Rattle.register.specs.Promises.{Keeps, Safe, ARecord, Proper, MeetsOnlyRecords}
use Rattle.register.proofs.Invariant.{Inv}
use Rattle.register.proofs.Conclude.{rebuilding, only_records}
use Rattle.register.proofs.Clients.{look_more}
use Rattle.register.proofs.Lean.{lean_few}
use Rattle.register.proofs.Steps.{entry}
use Rattle.register.proofs.First.{first_holds, after_holds, most}

-- w is the k-th part of 24
parts : (C : Meaning) → Lawful C → (c x : ℕ) → x ≤ (c + 1) * C.w → x ≤ (c + 1) * 24 / C.k
parts C L c x h =
    let a = mul-le-mul_right C.k h in
    let b = ap (λ v. (c + 1) * v) L.sizes in
    let s = L.needed in
    le-div x ((c + 1) * 24) C.k s (omega arith)

-- what the invariant says at the end of a list
pub promised : (C : Meaning) → Lawful C → (σ : Segment) (H : History) → Inv C σ H → Keeps C H σ.node
promised C L σ H I = record {
  order = I.order;
  reads = I.reads;
  rebuilding = rebuilding C L σ H I;
  bytes = record {
    most = λ i l. most C L (σ.node i) (I.nodes i l).room;
    few = λ i c l k least. parts C L c (held_bytes C.w (σ.node i)) (lean_few C H.began H.next I.clock I.parted c (σ.node i) k least (I.lean i l));
  };
}

-- the invariant after a list from a segment just laid out
pub reached : (C : Meaning) → Lawful C → (clients count : ℕ) (r : Bytes) → ARecord r → (xs : List Call) → Proper xs
    → Inv C (after C (laid_out C clients count r) xs) (history (start count r) (entries C (laid_out C clients count r) xs))
reached C L clients count r good xs p = after_holds C L xs (laid_out C clients count r) (start count r) (first_holds C L clients count r good) p

pub safe : (C : Meaning) → Lawful C → Safe C
safe C L clients count r few good xs p =
    promised C L (after C (laid_out C clients count r) xs) (history (start count r) (entries C (laid_out C clients count r) xs)) (reached C L clients count r good xs p)

pub meets_only_records : (C : Meaning) → Lawful C → MeetsOnlyRecords C
meets_only_records C L clients count r few good xs p =
    let σ = after C (laid_out C clients count r) xs in
    let H = history (start count r) (entries C (laid_out C clients count r) xs) in
    let I = reached C L clients count r good xs p in
    record {
      nodes = λ Q. only_records C L H.began σ.node I.order.apart I.records Q σ.node (λ j u v. I.nodes j u);
      answers = λ c i allowed used l got ans a e k said.
          let h = entry C L σ H I c _ e in
          let m = look_more C H.began σ.node (σ.mail c) (H.latest c) c i got ans a said h.looks in
          only_records C L H.began σ.node I.order.apart I.records _ _ (λ j u v. (m.gathered j u v).1);
    }
