-- What the memory of a segment means, in terms of the register.
use Rattle.std.specs.Prelude.{ℕ, min, cond, [], None, Option, nat_lt, slice_index_or}
use Rattle.std.specs.Option.{option_map}
use Rattle.code.specs.Meaning.{Meaning}
use Rattle.record.specs.Layout.{layout}
use Rattle.record.specs.declared.fields.Record.{Record}
use Rattle.register.specs.Nodes as register
use Rattle.register.specs.Machine as machine
use Rattle.node.specs.Stamped.{stamp}
use Rattle.node.specs.Shelved.{no_stamp}
use Rattle.node.specs.Views.{node}
use Rattle.reads.specs.Views.{past_nodes, got, shown, answer}
use Rattle.segment.specs.declared.state.Round.{Round}
use Rattle.segment.specs.declared.state.Round.TheVariants.{Look, Store, Settle}
use Rattle.segment.specs.declared.state.Request.{Request}
use Rattle.segment.specs.declared.state.Mail.{Mail}
use Rattle.segment.specs.declared.state.Mail.TheVariants.{Empty, Waiting, Looked, Stored, Settled}
use Rattle.segment.specs.declared.state.Post.{Post}
use Rattle.segment.specs.declared.state.Phase.{Phase}
use Rattle.segment.specs.declared.state.Phase.TheVariants.{Off, Idle, WriteLook, WriteStore, WriteSettle, ReadLook}
use Rattle.segment.specs.declared.state.Entry.{Entry}
use Rattle.segment.specs.declared.state.State.{State}
use Rattle.segment.specs.declared.state.Segment.{Segment}

-- A request, by its round.
abbrev pub request_as : Round → Request → machine.Request
request_as Look q = machine.look
request_as Store q = machine.storing (stamp q.stamp) (stamp q.floor) q.whole
request_as Settle q = machine.settling (stamp q.stamp)

abbrev pub request : Request → machine.Request
request q = request_as q.round q

-- What is in mailbox i: nothing, if its answer was fetched.
abbrev pub tag : Post → ℕ → Mail
tag p i = cond (got p.answers i) Empty (slice_index_or p.mails i Empty)

-- A mailbox by its tag, with the request q and what the node showed.
abbrev pub mail_as : machine.Request → register.Node → Mail → machine.Mail
mail_as q a Empty = machine.empty
mail_as q a Waiting = machine.waiting q
mail_as q a Looked = machine.answered (machine.looked a)
mail_as q a Stored = machine.answered machine.stored
mail_as q a Settled = machine.answered machine.settled

-- The mailboxes of a client, one for each of the n nodes.
abbrev pub mails : Meaning → Post → ℕ → machine.Mail
mails m p i = cond (nat_lt i m.n) (mail_as (request p.request) (shown m p.answers i) (tag p i)) machine.empty

-- The record last found, if any.
abbrev pub last : Option Record → Option register.Bytes
last o = option_map layout o

-- A client, by its phase.
abbrev pub client_as : Meaning → Entry → Phase → machine.Client
client_as m x Off = machine.off
client_as m x Idle = machine.idle (last x.last)
client_as m x WriteLook = machine.busy (last x.last) (machine.write_look x.post.request.whole (got x.post.answers) (answer m x.post.answers))
client_as m x WriteStore =
    machine.busy (last x.last) (machine.write_store x.post.request.whole (stamp x.post.request.stamp) (stamp x.post.request.floor) (got x.post.answers))
client_as m x WriteSettle = machine.busy (last x.last) (machine.write_settle x.post.request.whole (stamp x.post.request.stamp) (got x.post.answers))
client_as m x ReadLook = machine.busy (last x.last) (machine.read_look x.rounds.allowed x.rounds.used (got x.post.answers) (answer m x.post.answers))

abbrev pub client : Meaning → Entry → machine.Client
client m x = client_as m x x.phase

-- What is read past the end of the client table.
abbrev pub no_entry : Entry
no_entry = record {
  phase = Off;
  rounds = record { allowed = 0; used = 0 };
  last = None;
  post = record {
    request = record { round = Look; stamp = no_stamp; floor = no_stamp; whole = [] };
    mails = [];
    answers = record { fetched = 0; nodes = [] };
  };
}

-- The entry of client c.
abbrev pub entry : State → ℕ → Entry
entry s c = slice_index_or s.table.entries c no_entry

abbrev pub view_of : Meaning → State → machine.Segment
view_of m s = record {
  clients = min s.clients 8;
  node = λ i. cond (nat_lt i m.n) (node m (slice_index_or s.nodes i past_nodes)) machine.no_node;
  mail = λ c. mails m (entry s c).post;
  client = λ c. client m (entry s c);
}

-- A segment under a code's meaning.
abbrev pub view : {C : Type 0} → Meaning → Segment C → machine.Segment
view m s = view_of m s.state
