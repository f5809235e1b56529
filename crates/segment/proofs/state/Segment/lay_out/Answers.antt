use Rattle.std.proofs.Common.{◌≡◌, ℕ, ◌<◌, ◌≤◌, [], ◌∷◌, get_or, None, sym, refl, subst, rules}
use Rattle.record.specs.Layout.{layout}
use Rattle.register.specs.Nodes.{free}
use Rattle.register.specs.Machine.{lay_out_refusal}
use Rattle.register.specs.Promises.{ARecord}
use Rattle.node.specs.Views.{node}
use Rattle.reads.specs.Views.{past_nodes}
use Rattle.segment.proofs.Laid.{laid_view, safe_view}
use Rattle.segment.proofs.state.Segment.lay_out.Goals as goal

pub returns : goal.returns
returns g c =
    let m = g.C.Code.meaning in
    let r = c.args.first.now in
    let count = c.args.count in
    let proper : ARecord (layout r) = subst ARecord c.first_bytes.ensures.bytes c.first_bytes.ensures.proper in
    let accepted : None ≡ lay_out_refusal c.args.clients count = search rules in
    let few : c.args.clients ≤ 8 = search rules in
    let x = c.first_entry.result in
    let each : (j : ℕ) → j < m.n → node m (get_or c.first_nodes.result j past_nodes) ≡ record { floor = record { count = count; client = 0 }; shelf = record { stamp = record { count = count; client = 0 }; bytes = m.piece (layout r) j } ∷ []; spare = free } =
    subst (λ b. (j : ℕ) → j < m.n → node m (get_or c.first_nodes.result j past_nodes) ≡ record { floor = record { count = count; client = 0 }; shelf = record { stamp = record { count = count; client = 0 }; bytes = m.piece b j } ∷ []; spare = free }) c.first_bytes.ensures.bytes c.first_nodes.ensures in
    let laid = laid_view m c.args.clients count (layout r) (record { clients = c.args.clients; nodes = c.first_nodes.result; table = record { entries = x ∷ x ∷ x ∷ x ∷ x ∷ x ∷ x ∷ x ∷ [] } }) x refl few refl c.first_entry.ensures.off c.first_entry.ensures.empty each in
    record {
      refuses = accepted;
      laid = laid;
      safe = safe_view m g.met.C.Code.lawful c.args.clients count (layout r) _ proper (sym accepted) laid;
    }
