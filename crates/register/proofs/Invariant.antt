-- What holds of a segment and its history after every list of calls.
use Rattle.std.proofs.Common.{◌≡◌, ℕ, ◌-◌, ◌<◌, ◌≤◌, Bool, true, false, eqb, ◌⊎◌, length, Some as some, refl, ap, ◌∙◌, inl, inr, arith}
use Rattle.std.proofs.lemmas.Bool.{eq-eqb}
use Rattle.code.specs.Meaning.{Meaning}
use Rattle.register.specs.Tables.{tally}
use Rattle.register.specs.Stamps.{Stamp, Earlier, NoLater}
use Rattle.register.specs.Nodes.{Bytes, Node}
use Rattle.register.specs.Reading.{node_stamps}
use Rattle.register.specs.Machine.{storing, settling, looked, stored, settled, Mail, waiting, answered, write_look, write_store, write_settle, read_look, Client, off, idle, busy, Segment}
use Rattle.register.specs.History.{Write, unstamped, stamped_as, ended_as, failed, reading, gave, gave_up, Operation, nothing, a_write, a_read, History, stamp_of, bytes_of, Ended}
use Rattle.register.specs.Promises.{OneOrder, RegularReads, ARecord}
use Rattle.register.proofs.Order.{reaches, not_below, is_reached, le_le}
use Rattle.register.proofs.Counting.{more}
use Rattle.register.proofs.NodeLaws.{keeps, Low}
use Rattle.register.proofs.Readable.{Every}
use Rattle.register.proofs.Crowd.{Not}
use Rattle.register.proofs.Lean.{LeanNode}
use Rattle.register.proofs.Items.{Items, items_map}

-- operations by the place of their begin
abbrev pub Ops : Type 0
Ops = ℕ → Operation

-- the operation is client c's
abbrev pub by : ℕ → Operation → Bool
by c nothing = false
by c (a_write d r g) = eqb d c
by c (a_read d x) = eqb d c

-- the operation has not ended
abbrev pub is_open : Operation → Bool
is_open nothing = false
is_open (a_write c r unstamped) = true
is_open (a_write c r (stamped_as s)) = true
is_open (a_write c r (ended_as s e)) = false
is_open (a_write c r (failed e)) = false
is_open (a_read c reading) = true
is_open (a_read c (gave x e)) = false
is_open (a_read c (gave_up e)) = false

-- An operation, and what became of it: a stamp stays, with its record.
pub record Later (o o' : Operation) : Type 0 where
  pub stamp : (s : Stamp) → stamp_of o ≡ some s → stamp_of o' ≡ some s
  pub bytes : (s : Stamp) → stamp_of o ≡ some s → bytes_of o ≡ bytes_of o'

-- A node, and what became of it: its floor does not fall, and what it keeps stays kept.
pub record Grown (a a' : Node) : Type 0 where
  pub floor : NoLater a.floor a'.floor
  pub keep : (t : Stamp) → keeps t a ≡ true → keeps t a' ≡ true

-- No Store request waits.
abbrev pub NoStores : (ℕ → Mail) → Type 0
NoStores mail = (i : ℕ) (s F : Stamp) (r : Bytes) → mail i ≡ waiting (storing s F r) → ⊥

-- All operations of client d have ended.
abbrev pub Quiet : Ops → ℕ → Type 0
Quiet B d = (q : ℕ) → by d (B q) ≡ true → is_open (B q) ≡ false

-- All operations of client d have ended, but for the one that began at p.
abbrev pub Others : Ops → ℕ → ℕ → Type 0
Others B p d = (q : ℕ) → by d (B q) ≡ true → (q ≡ p → ⊥) → is_open (B q) ≡ false

-- All other stamped writes of client d ended before p.
abbrev pub Mine : Ops → ℕ → ℕ → Type 0
Mine B p d = (q : ℕ) (s : Stamp) → by d (B q) ≡ true → (q ≡ p → ⊥) → stamp_of (B q) ≡ some s → (e : ℕ) × (Ended (B q) s e) × (e < p)

module _ (C : Meaning) where
  -- n - f nodes keep the write with the stamp s.
  abbrev pub Established : (ℕ → Node) → Stamp → Type 0
  Established node s = C.n - C.f ≤ tally (λ i. keeps s (node i)) 0 C.n

  -- n - f floors stand at s or above.
  abbrev pub Settled : (ℕ → Node) → Stamp → Type 0
  Settled node s = C.n - C.f ≤ tally (λ i. reaches s (node i).floor) 0 C.n

  -- s is the stamp of a write, which is established.
  abbrev pub AFloor : Ops → (ℕ → Node) → Stamp → Type 0
  AFloor B node s = (q : ℕ) × (stamp_of (B q) ≡ some s) × Established node s

  -- b is piece i of the record of the write with the stamp s.
  abbrev pub PieceOf : Ops → ℕ → Stamp → Bytes → Type 0
  PieceOf B i s b = (q : ℕ) × (stamp_of (B q) ≡ some s) × (b ≡ C.piece (bytes_of (B q)) i)

  -- r is the record of the write with the stamp s.
  abbrev pub WholeOf : Ops → Stamp → Bytes → Type 0
  WholeOf B s r = (q : ℕ) × (stamp_of (B q) ≡ some s) × (r ≡ bytes_of (B q))

  -- What holds of a node, and of a copy that a Look made of it.
  pub record NodeOk (B : Ops) (node : ℕ → Node) (i : ℕ) (a : Node) : Type 0 where
    -- a piece in its spare stands at its floor or below
    pub low : Low a
    -- all it holds is of a write, under its stamp
    pub items : Items (PieceOf B i) (WholeOf B) a
    -- its floor is the stamp of an established write
    pub base : AFloor B node a.floor
    -- at most k pieces stand on its shelf
    pub room : length a.shelf ≤ C.k

  -- What holds of an open Look round of an operation that began at p.
  pub record LookOk (B : Ops) (node : ℕ → Node) (mail : ℕ → Mail) (p : ℕ) (got : ℕ → Bool) (ans : ℕ → Node) : Type 0 where
    -- the floors at the begin
    pub base : ℕ → Stamp
    -- no floor is lower now
    pub under : (i : ℕ) → NoLater (base i) (node i).floor
    -- nor in an answer that lies in a mailbox
    pub mailed : (i : ℕ) (a : Node) → i < C.n → mail i ≡ answered (looked a) → NoLater (base i) a.floor × NodeOk B node i a
    -- nor in an answer that was fetched
    pub gathered : (i : ℕ) → i < C.n → got i ≡ true → NoLater (base i) (ans i).floor × NodeOk B node i (ans i)
    -- of a write that ended before, n - f of these floors were at its stamp or above
    pub past : (q : ℕ) (s : Stamp) (e : ℕ) → Ended (B q) s e → e < p → C.n - C.f ≤ tally (λ i. reaches s (base i)) 0 C.n

  -- A write of client d in its Look round.
  pub record WriteLook (B : Ops) (node : ℕ → Node) (mail : ℕ → Mail) (p d : ℕ) (r : Bytes) (got : ℕ → Bool) (ans : ℕ → Node) : Type 0 where
    -- the history has this operation at its begin
    pub op : B p ≡ a_write d r unstamped
    -- its Look round stands as it should
    pub looks : LookOk B node mail p got ans
    -- no Store request of the client waits
    pub stores : NoStores mail
    -- all other operations of the client have ended
    pub others : Others B p d
    -- all earlier stamped writes of the client ended before this one began
    pub mine : Mine B p d

  -- A read of client d in a Look round.
  pub record ReadLook (B : Ops) (node : ℕ → Node) (mail : ℕ → Mail) (p d : ℕ) (got : ℕ → Bool) (ans : ℕ → Node) : Type 0 where
    -- the history has this operation at its begin
    pub op : B p ≡ a_read d reading
    -- its Look round stands as it should
    pub looks : LookOk B node mail p got ans
    -- no Store request of the client waits
    pub stores : NoStores mail
    -- all other operations of the client have ended
    pub others : Others B p d

  -- Node i keeps the write with the stamp s, or that is established already.
  abbrev pub Stored : (ℕ → Node) → Stamp → ℕ → Type 0
  Stored node s i = (keeps s (node i) ≡ true) ⊎ Established node s

  -- A write of client d in its Store round.
  pub record StoreOk (B : Ops) (node : ℕ → Node) (mail : ℕ → Mail) (p d : ℕ) (r : Bytes) (s F : Stamp) (got : ℕ → Bool) : Type 0 where
    -- the history has this operation at its begin
    pub op : B p ≡ a_write d r (stamped_as s)
    -- F is the stamp of an established write, below s
    pub floor : AFloor B node F
    -- F is below s
    pub less : Earlier F s
    -- what ended before the begin stands no later than F
    pub past : (q : ℕ) (s' : Stamp) (e : ℕ) → Ended (B q) s' e → e < p → NoLater s' F
    -- a node that answered has stored it
    pub gathered : (i : ℕ) → got i ≡ true → Stored node s i
    pub mailed : (i : ℕ) → mail i ≡ answered stored → Stored node s i
    -- a Store request that waits is of this round
    pub asked : (i : ℕ) (s' F' : Stamp) (r' : Bytes) → mail i ≡ waiting (storing s' F' r') → (s' ≡ s) × (F' ≡ F) × (r' ≡ r)
    -- all other operations of the client have ended
    pub others : Others B p d

  -- A write of client d in its Settle round.
  pub record SettleOk (B : Ops) (node : ℕ → Node) (mail : ℕ → Mail) (p d : ℕ) (r : Bytes) (s : Stamp) (got : ℕ → Bool) : Type 0 where
    -- the history has this operation at its begin
    pub op : B p ≡ a_write d r (stamped_as s)
    -- the floor of a node that answered is at s or above
    pub gathered : (i : ℕ) → got i ≡ true → NoLater s (node i).floor
    pub mailed : (i : ℕ) → mail i ≡ answered settled → NoLater s (node i).floor
    -- a Settle request that waits is of this round
    pub asked : (i : ℕ) (s' : Stamp) → mail i ≡ waiting (settling s') → s' ≡ s
    -- no Store request of the client waits
    pub stores : NoStores mail
    -- all other operations of the client have ended
    pub others : Others B p d

  -- Client d has no open operation.
  pub record IdleOk (B : Ops) (mail : ℕ → Mail) (d : ℕ) : Type 0 where
    -- no Store request of the client waits
    pub stores : NoStores mail
    -- all operations of the client have ended
    pub quiet : Quiet B d

  -- What holds of client d, whose latest operation began at p.
  abbrev pub ClientOk : Ops → (ℕ → Node) → (ℕ → Mail) → ℕ → ℕ → Client → Type 0
  ClientOk B node mail p d off = IdleOk B mail d
  ClientOk B node mail p d (idle l) = IdleOk B mail d
  ClientOk B node mail p d (busy l (write_look r got ans)) = WriteLook B node mail p d r got ans
  ClientOk B node mail p d (busy l (write_store r s F got)) = StoreOk B node mail p d r s F got
  ClientOk B node mail p d (busy l (write_settle r s got)) = SettleOk B node mail p d r s got
  ClientOk B node mail p d (busy l (read_look k u got ans)) = ReadLook B node mail p d got ans

  -- Where a Store request waits at a node, the node holds nothing under its stamp.
  abbrev pub Unheld : (ℕ → Node) → (ℕ → Mail) → Type 0
  Unheld node mail = (i : ℕ) (s F : Stamp) (r : Bytes) → i < C.n → mail i ≡ waiting (storing s F r) → Every (Not s) (node_stamps (node i))

  -- Every Settle request that waits is for the stamp of an established write.
  abbrev pub Settles : Ops → (ℕ → Node) → (ℕ → Mail) → Type 0
  Settles B node mail = (i : ℕ) (s : Stamp) → mail i ≡ waiting (settling s) → AFloor B node s

  -- The invariant.
  pub record Inv (σ : Segment) (H : History) : Type 0 where
    -- nothing has begun at the next place or after it
    pub clock : (q : ℕ) → H.next ≤ q → H.began q ≡ nothing
    -- nothing has ended there
    pub ends : (q : ℕ) (s : Stamp) (e : ℕ) → Ended (H.began q) s e → e < H.next
    -- nothing began where a write ended, but for the first record
    pub parted : (q : ℕ) (s : Stamp) (e : ℕ) → Ended (H.began q) s e → (e ≡ 0) ⊎ (H.began e ≡ nothing)
    -- each client's latest operation began before the next place
    pub latest : (d : ℕ) → H.latest d < H.next
    -- a stamp has the number of its own client
    pub owner : (q : ℕ) (s : Stamp) → stamp_of (H.began q) ≡ some s → by s.client (H.began q) ≡ true
    -- what is written are records
    pub records : (q c : ℕ) (r : Bytes) (g : Write) → H.began q ≡ a_write c r g → ARecord r
    -- the writes stand in one order
    pub order : OneOrder H
    -- the reads are regular
    pub reads : RegularReads H
    -- the stamp of every write that has ended is settled
    pub settled : (q : ℕ) (s : Stamp) (e : ℕ) → Ended (H.began q) s e → Settled σ.node s
    -- every node is in order
    pub nodes : (i : ℕ) → i < C.n → NodeOk H.began σ.node i (σ.node i)
    -- every client is in order
    pub clients : (d : ℕ) → ClientOk H.began σ.node (σ.mail d) (H.latest d) d (σ.client d)
    -- so is every Settle request
    pub settles : (d : ℕ) → Settles H.began σ.node (σ.mail d)
    -- and every Store request
    pub unheld : (d : ℕ) → Unheld σ.node (σ.mail d)
    -- no node holds more than the writes open together account for
    pub lean : (i : ℕ) → i < C.n → LeanNode C H.began H.next (σ.node i)

  -- ---- what others do leaves a client's facts

  pub established_grown : (node node' : ℕ → Node) → ((i : ℕ) → Grown (node i) (node' i)) → (s : Stamp) → Established node s → Established node' s
  established_grown node node' g s h =
      let m = more (λ i. keeps s (node i)) (λ i. keeps s (node' i)) 0 C.n (λ i u v x. (g i).keep s x) in
      omega arith

  pub settled_grown : (node node' : ℕ → Node) → ((i : ℕ) → Grown (node i) (node' i)) → (s : Stamp) → Settled node s → Settled node' s
  settled_grown node node' g s h =
      let m = more (λ i. reaches s (node i).floor) (λ i. reaches s (node' i).floor) 0 C.n
      (λ i u v x. is_reached s (node' i).floor (le_le s (node i).floor (node' i).floor (not_below s (node i).floor x) (g i).floor)) in
      omega arith

  -- The operations go on, of which client d's only as d makes them, and the nodes grow.
  pub record Frame (B B' : Ops) (node node' : ℕ → Node) (p d : ℕ) : Type 0 where
    pub later : (q : ℕ) → Later (B q) (B' q)
    pub back : (q : ℕ) (s : Stamp) (e : ℕ) → Ended (B' q) s e → e < p → Ended (B q) s e
    -- the history has this operation at its begin
    pub op : by d (B p) ≡ true → B' p ≡ B p
    pub own : (q : ℕ) → by d (B' q) ≡ true → B' q ≡ B q
    pub nodes : (i : ℕ) → Grown (node i) (node' i)

  module _ (B B' : Ops) (node node' : ℕ → Node) (later : (q : ℕ) → Later (B q) (B' q)) (grown : (i : ℕ) → Grown (node i) (node' i)) where
    pub floor_later : (s : Stamp) → AFloor B node s → AFloor B' node' s
    floor_later s h = (h.0, (later h.0).stamp s h.1, established_grown node node' grown s h.2)

    pub node_later : (i : ℕ) (a : Node) → NodeOk B node i a → NodeOk B' node' i a
    node_later i a h = record {
      low = h.low;
      items = items_map (PieceOf B i) (PieceOf B' i) (WholeOf B) (WholeOf B')
          (λ s b x. (x.0, (later x.0).stamp s x.1, x.2 ∙ ap (λ r. C.piece r i) ((later x.0).bytes s x.1)))
          (λ s b x. (x.0, (later x.0).stamp s x.1, x.2 ∙ (later x.0).bytes s x.1)) a h.items;
      base = floor_later a.floor h.base;
      room = h.room;
    }

    pub settles_later : (mail : ℕ → Mail) → Settles B node mail → Settles B' node' mail
    settles_later mail h i s e = floor_later s (h i s e)

    pub stored_later : (s : Stamp) (i : ℕ) → Stored node s i → Stored node' s i
    stored_later s i (inl h) = inl ((grown i).keep s h)
    stored_later s i (inr h) = inr (established_grown node node' grown s h)

  module _ (B B' : Ops) (node node' : ℕ → Node) (p d : ℕ) (f : Frame B B' node node' p d) where
    quiet_frame : Quiet B d → Quiet B' d
    quiet_frame h q b = let e = f.own q b in rw e (h q (rw e at b))

    others_frame : Others B p d → Others B' p d
    others_frame h q b n = let e = f.own q b in rw e (h q (rw e at b) n)

    mine_frame : Mine B p d → Mine B' p d
    mine_frame h q s b n t = let e = f.own q b in rw e (h q s (rw e at b) n (rw e at t))

    look_frame : (mail : ℕ → Mail) (got : ℕ → Bool) (ans : ℕ → Node) → LookOk B node mail p got ans → LookOk B' node' mail p got ans
    look_frame mail got ans h = record {
      base = h.base;
      under = λ i. le_le (h.base i) (node i).floor (node' i).floor (h.under i) (f.nodes i).floor;
      mailed = λ i a l e. ((h.mailed i a l e).0, node_later B B' node node' f.later f.nodes i a (h.mailed i a l e).1);
      gathered = λ i l e. ((h.gathered i l e).0, node_later B B' node node' f.later f.nodes i (ans i) (h.gathered i l e).1);
      past = λ q s e x y. h.past q s e (f.back q s e x y) y;
    }

    pub client_frame : (mail : ℕ → Mail) (x : Client) → ClientOk B node mail p d x → ClientOk B' node' mail p d x
    client_frame mail off h = record { stores = h.stores; quiet = quiet_frame h.quiet }
    client_frame mail (idle l) h = record { stores = h.stores; quiet = quiet_frame h.quiet }
    client_frame mail (busy l (write_look r got ans)) h = record {
      op = f.op (ap (by d) h.op ∙ eq-eqb d d refl) ∙ h.op;
      looks = look_frame mail got ans h.looks;
      stores = h.stores;
      others = others_frame h.others;
      mine = mine_frame h.mine;
    }
    client_frame mail (busy l (write_store r s F got)) h = record {
      op = f.op (ap (by d) h.op ∙ eq-eqb d d refl) ∙ h.op;
      floor = floor_later B B' node node' f.later f.nodes F h.floor;
      less = h.less;
      past = λ q t e x y. h.past q t e (f.back q t e x y) y;
      gathered = λ i e. stored_later B B' node node' f.later f.nodes s i (h.gathered i e);
      mailed = λ i e. stored_later B B' node node' f.later f.nodes s i (h.mailed i e);
      asked = h.asked;
      others = others_frame h.others;
    }
    client_frame mail (busy l (write_settle r s got)) h = record {
      op = f.op (ap (by d) h.op ∙ eq-eqb d d refl) ∙ h.op;
      gathered = λ i e. le_le s (node i).floor (node' i).floor (h.gathered i e) (f.nodes i).floor;
      mailed = λ i e. le_le s (node i).floor (node' i).floor (h.mailed i e) (f.nodes i).floor;
      asked = h.asked;
      stores = h.stores;
      others = others_frame h.others;
    }
    client_frame mail (busy l (read_look k u got ans)) h = record {
      op = f.op (ap (by d) h.op ∙ eq-eqb d d refl) ∙ h.op;
      looks = look_frame mail got ans h.looks;
      stores = h.stores;
      others = others_frame h.others;
    }
