-- What a take leaves in a client's entry.
use Rattle.std.proofs.Common.{◌≡◌, ℕ, ◌<◌, true, false, length, get_or, set, sym, refl, ap, ◌∙◌, ap₂, arith}
use Rattle.std.proofs.lemmas.List.{get_or-set_same, get_or-set_other}
use Rattle.std.proofs.lemmas.Bool.{lt-ltb}
use Rattle.code.specs.Meaning.{Meaning}
use Rattle.register.specs.Tables.{upd}
use Rattle.register.specs.Nodes as register
use Rattle.register.specs.Machine as machine
use Rattle.node.specs.declared.nodes.Node.{Node}
use Rattle.node.specs.Views.{node}
use Rattle.reads.specs.declared.rounds.Answers.{Answers}
use Rattle.reads.specs.Views.{past_nodes, got, shown, answer}
use Rattle.reads.proofs.Tables.{upd_same}
use Rattle.segment.specs.declared.state.Round.{Round}
use Rattle.segment.specs.declared.state.Round.TheVariants.{Look, Store, Settle}
use Rattle.segment.specs.declared.state.Mail.{Mail}
use Rattle.segment.specs.declared.state.Mail.TheVariants.{Empty, Waiting, Looked, Stored, Settled}
use Rattle.segment.specs.declared.state.Request.{Request}
use Rattle.segment.specs.declared.state.Post.{Post}
use Rattle.segment.specs.declared.state.Phase.{Phase}
use Rattle.segment.specs.declared.state.Phase.TheVariants.{Off, Idle, WriteLook, WriteStore, WriteSettle, ReadLook}
use Rattle.segment.specs.declared.state.Entry.{Entry}
use Rattle.segment.specs.Views.{request_as, request, tag, mail_as, mails, client_as, client}
use Rattle.segment.specs.Waits.{is_waiting}
use Rattle.segment.specs.Told.{no, carried, round_of, plain, Visited}
use Rattle.segment.proofs.Mailed.{waits_unfetched, put_mail, same_answers}

-- the mailboxes p', which were p, have the answer of a node that held a, and nothing else is new
pub record Answered (m : Meaning) (p p' : Post) (i : ℕ) (a : register.Node) : Type 0 where
  pub mails : mails m p' ≡ upd (mails m p) i (machine.answered (machine.answer (request p.request) a))
  pub fetched : got p'.answers ≡ got p.answers
  pub answers : answer m p'.answers ≡ answer m p.answers

module _ (m : Meaning) (p : Post) (i : ℕ) (inside : i < m.n) (long : i < length p.mails) (waits : is_waiting (tag p i) ≡ true) where
  -- a Look: the node shows what it holds
  pub looked : (x : Node) (shows : Answers) → p.request.round ≡ Look → i < length p.answers.nodes
      → shows ≡ record { fetched = p.answers.fetched; nodes = set p.answers.nodes i x }
      → Answered m p (record { request = p.request; mails = set p.mails i Looked; answers = shows }) i (node m x)
  looked x shows round long' e =
      let ns = set p.answers.nodes i x in
      let un = (waits_unfetched p i waits).0 in
      let others : (j : ℕ) → (i ≡ j → ⊥) → get_or ns j past_nodes ≡ get_or p.answers.nodes j past_nodes = λ j n. get_or-set_other p.answers.nodes i j x past_nodes (λ z. n (sym z)) in
      record {
        mails =
            ap (λ a. mails m (record { request = p.request; mails = set p.mails i Looked; answers = a })) e
            ∙ put_mail m p i Looked ns inside long un others
            ∙ ap₂ (λ y q. upd (mails m p) i (machine.answered (machine.answer q (node m y)))) (get_or-set_same p.answers.nodes i x past_nodes long')
            (sym (ap (λ r. request_as r p.request) round));
        fetched = ap got e;
        answers = ap (answer m) e ∙ same_answers m p i Looked ns un others;
      }

  -- a Store or a Settle: nothing is shown
  pub carried_out : (a : register.Node) (y : Mail) → mail_as (request p.request) (shown m p.answers i) y ≡ machine.answered (machine.answer (request p.request) a)
      → Answered m p (record { request = p.request; mails = set p.mails i y; answers = p.answers }) i a
  carried_out a y e = record {
    mails = put_mail m p i y p.answers.nodes inside long (waits_unfetched p i waits).0 (λ j n. refl) ∙ ap (upd (mails m p) i) e;
    fetched = refl;
    answers = refl;
  }

  pub stored : (a : register.Node) → p.request.round ≡ Store → Answered m p (record { request = p.request; mails = set p.mails i Stored; answers = p.answers }) i a
  stored a round = carried_out a Stored (ap (λ r. machine.answered (machine.answer (request_as r p.request) a)) (sym round))

  pub settled : (a : register.Node) → p.request.round ≡ Settle → Answered m p (record { request = p.request; mails = set p.mails i Settled; answers = p.answers }) i a
  settled a round = carried_out a Settled (ap (λ r. machine.answered (machine.answer (request_as r p.request) a)) (sym round))

-- a client goes by its request, the nodes fetched and their answers
same_client : (m : Meaning) (x : Entry) (p : Post) → p.request ≡ x.post.request → got p.answers ≡ got x.post.answers → answer m p.answers ≡ answer m x.post.answers
    → client m (record { phase = x.phase; rounds = x.rounds; last = x.last; post = p }) ≡ client m x
same_client m x p q g a = go x.phase
  where
    go : (h : Phase) → client_as m (record { phase = x.phase; rounds = x.rounds; last = x.last; post = p }) h ≡ client_as m x h
    go Off = refl
    go Idle = refl
    go WriteLook = cc
    go WriteStore = cc
    go WriteSettle = cc
    go ReadLook = cc

-- the round of a request is what is told
round_back : (q : Request) → round_of (request q) ≡ q.round
round_back q = go q.round
  where
    go : (r : Round) → round_of (request_as r q) ≡ r
    go Look = refl
    go Store = refl
    go Settle = refl

module _ (m : Meaning) (i : ℕ) (x : Entry) (inside : i < m.n) where
  -- a visit where a request waits
  waiting_visit : (a : register.Node) → is_waiting (tag x.post i) ≡ true
      → machine.visit m i a (mails m x.post i)
      ≡ record { outcome = machine.taken (request x.post.request); node = machine.served m i (request x.post.request) a; mail = machine.answered (machine.answer (request x.post.request) a) }
  unfolding machine.visit
  waiting_visit a w = let h = waits_unfetched x.post i w in rw (lt-ltb i m.n inside, h.0, h.1)

  -- and where none does
  other_visit : (a : register.Node) → is_waiting (tag x.post i) ≡ false
      → machine.visit m i a (mails m x.post i) ≡ record { outcome = machine.refused 14; node = a; mail = mails m x.post i }
  unfolding machine.visit
  other_visit a w = rw (lt-ltb i m.n inside) (go (tag x.post i) w)
    where
      go : (y : Mail) → is_waiting y ≡ false
          → machine.visit m i a (mail_as (request x.post.request) (shown m x.post.answers i) y)
          ≡ record { outcome = machine.refused 14; node = a; mail = mail_as (request x.post.request) (shown m x.post.answers i) y }
      go Empty e = refl
      go Waiting e = absurd (let z : ◌≡◌ {A = ℕ} 0 1 = cc in omega arith)
      go Looked e = refl
      go Stored e = refl
      go Settled e = refl

  -- a take that is refused
  pub no_visit : (a : Node) → is_waiting (tag x.post i) ≡ false → Visited m i x x a (no 14) (machine.visit m i (node m a) (mails m x.post i))
  no_visit a w =
      let e = other_visit (node m a) w in
      record {
        node = sym (ap (λ v. v.node) e);
        mail = sym (ap (λ v. upd (mails m x.post) i v.mail) e ∙ upd_same (mails m x.post) i (mails m x.post i) refl);
        client = refl;
        outcome = sym (ap (λ v. plain v.outcome) e);
      }

  -- a take that is carried out
  pub visited : (a b : Node) (p : Post) (r : Round) → is_waiting (tag x.post i) ≡ true
      → node m b ≡ machine.served m i (request x.post.request) (node m a) → p.request ≡ x.post.request → r ≡ p.request.round → Answered m x.post p i (node m a)
      → Visited m i x (record { phase = x.phase; rounds = x.rounds; last = x.last; post = p }) b (carried r) (machine.visit m i (node m a) (mails m x.post i))
  visited a b p r w n q told h =
      let e = waiting_visit (node m a) w in
      record {
        node = n ∙ sym (ap (λ v. v.node) e);
        mail = h.mails ∙ sym (ap (λ v. upd (mails m x.post) i v.mail) e);
        client = same_client m x p q h.fetched h.answers;
        outcome = ap carried (told ∙ ap (λ z. z.round) q ∙ sym (round_back x.post.request)) ∙ sym (ap (λ v. plain v.outcome) e);
      }
