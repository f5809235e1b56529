-- One entry of the client table changes, and at a take one node too.
use Rattle.std.proofs.Common.{◌≡◌, ℕ, ◌<◌, cond, ltb, List, length, get_or, set, sym, refl, ap, ◌∙◌, ap₂, inl, inr}
use mathlib.Core.Path.{fun_ext}
use Rattle.std.proofs.lemmas.Bool.{cases_eq, eq-eqb, ne_eqb, lt-ltb}
use Rattle.code.specs.Meaning.{Meaning}
use Rattle.register.specs.Tables.{upd}
use Rattle.register.specs.Nodes as register
use Rattle.register.specs.Machine.{Mail, Client, Turn, Visit, Step, turned, visited, no_node}
use Rattle.node.specs.declared.nodes.Node.{Node}
use Rattle.node.specs.Views.{node}
use Rattle.reads.specs.Views.{past_nodes}
use Rattle.reads.proofs.Tables.{set_at, set_table, upd_same}
use Rattle.segment.specs.declared.state.Entry.{Entry}
use Rattle.segment.specs.declared.state.State.{State}
use Rattle.segment.specs.Views.{mails, client, no_entry, entry, view_of}
use Rattle.segment.specs.Told.{Told, no, plain, Turned, Visited}
use Rattle.segment.proofs.Stepped.{refuses}

-- the segment after it is that of the step d, and o is what is told of it
pub record Done (m : Meaning) (s : State) (o : Told) (d : Step) : Type 0 where
  pub after : view_of m s ≡ d.after
  pub answer : o ≡ plain d.outcome

-- a step that is another one by an equation
pub done_as : (m : Meaning) (s : State) (o : Told) (d e : Step) → e ≡ d → Done m s o d → Done m s o e
done_as m s o d e q h = record { after = h.after ∙ sym (ap (λ x. x.after) q); answer = h.answer ∙ sym (ap (λ x. plain x.outcome) q) }

-- a refused step changes nothing
pub refused_done : (m : Meaning) (s : State) (e : ℕ) (d : Step) → d ≡ refuses e (view_of m s) → Done m s (no e) d
refused_done m s e d q = done_as m s (no e) (refuses e (view_of m s)) d q (record { after = refl; answer = refl })

-- a node that is in the segment is what the view shows
pub node_there : (m : Meaning) (s : State) (i : ℕ) → i < m.n → node m (get_or s.nodes i past_nodes) ≡ (view_of m s).node i
node_there m s i l = rw (lt-ltb i m.n l)

module _ (m : Meaning) (s : State) (es : List Entry) (c : ℕ) (long : c < length s.table.entries) (framed : es ≡ set s.table.entries c (get_or es c no_entry)) where
  -- the tables with the entry of client c
  put_mails : (g : ℕ → Mail) → mails m (get_or es c no_entry).post ≡ g
      → ◌≡◌ {A = ℕ → ℕ → Mail} (λ d. mails m (get_or es d no_entry).post) (upd (λ d. mails m (entry s d).post) c g)
  put_mails g e =
      let all : List Entry → ℕ → ℕ → Mail = λ v d. mails m (get_or v d no_entry).post in
      ap all framed
      ∙ set_table (λ (x : Entry). mails m x.post) s.table.entries c (get_or es c no_entry) no_entry long
      ∙ ap (upd (λ d. mails m (entry s d).post) c) e

  put_client : (x : Client) → client m (get_or es c no_entry) ≡ x → ◌≡◌ {A = ℕ → Client} (λ d. client m (get_or es d no_entry)) (upd (λ d. client m (entry s d)) c x)
  put_client x e =
      let all : List Entry → ℕ → Client = λ v d. client m (get_or v d no_entry) in
      ap all framed
      ∙ set_table (client m) s.table.entries c (get_or es c no_entry) no_entry long
      ∙ ap (upd (λ d. client m (entry s d)) c) e

  -- a turn of client c
  pub turn_done : (o : Told) (t : Turn) → Turned m (get_or es c no_entry) o t
      → Done m (record { clients = s.clients; nodes = s.nodes; table = record { entries = es } }) o (turned (view_of m s) c t)
  turn_done o t h = record {
    after = ap₂ (λ u v. record { clients = (view_of m s).clients; node = (view_of m s).node; mail = u; client = v }) (put_mails t.mail h.mail) (put_client t.client h.client);
    answer = h.outcome;
  }

  -- one node changes
  put_node : (i : ℕ) (a : Node) → i < m.n → i < length s.nodes
      → ◌≡◌ {A = ℕ → register.Node} (λ j. cond (ltb j m.n) (node m (get_or (set s.nodes i a) j past_nodes)) no_node) (upd (view_of m s).node i (node m a))
  put_node i a l long' = fun_ext (λ j.
      ap (λ x. cond (ltb j m.n) (node m x) no_node) (set_at s.nodes i j a past_nodes long')
      ∙ elim (cases_eq i j) [
        | inl z ↦ rw (eq-eqb i j z, ← z, lt-ltb i m.n l)
        | inr n ↦ rw (ne_eqb i j n)
      ])

  -- a visit for client c at node i
  pub visit_done : (i : ℕ) (a : Node) (o : Told) (v : Visit) → i < m.n → i < length s.nodes → Visited m i (entry s c) (get_or es c no_entry) a o v
      → Done m (record { clients = s.clients; nodes = set s.nodes i a; table = record { entries = es } }) o (visited (view_of m s) c i v)
  visit_done i a o v l long' h = record {
    after =
        ap (λ n. record { clients = (view_of m s).clients; node = n; mail = λ d. mails m (get_or es d no_entry).post; client = λ d. client m (get_or es d no_entry) })
        (put_node i a l long' ∙ ap (upd (view_of m s).node i) h.node)
        ∙ ap₂ (λ u w. record { clients = (view_of m s).clients; node = upd (view_of m s).node i v.node; mail = u; client = w })
        (put_mails (upd ((view_of m s).mail c) i v.mail) h.mail)
        (put_client ((view_of m s).client c) h.client ∙ upd_same (view_of m s).client c ((view_of m s).client c) refl);
    answer = h.outcome;
  }
