use Rattle.std.proofs.Common.{◌≡◌, min, true, false, ltb, get_or, subst, rules}
use Rattle.record.specs.Layout.{layout}
use Rattle.register.specs.Machine.{begin_write, write_turn}
use Rattle.segment.specs.Views.{mails, client, no_entry, entry, view_of}
use Rattle.segment.specs.Told.{did, Turned}
use Rattle.segment.proofs.Put.{done_as, turn_done, refused_done}
use Rattle.segment.proofs.Stepped.{no_client, write_step}
use Rattle.segment.proofs.state.Segment.begin_write.Goals as goal

pub returns-then-not-has_client : goal.returns-then-not-has_client
returns-then-not-has_client g c =
    let m = g.C.Code.meaning in
    let s = c.args.self.now.state in
    let h : ltb c.args.client (min s.clients 8) ≡ false = search rules in
    let d = refused_done m s 8 _ (no_client m (view_of m s) (begin_write c.args.client _) h) in
    record { after = d.after; answer = d.answer }

pub returns : goal.returns
returns g c =
    let m = g.C.Code.meaning in
    let s = c.args.self.now.state in
    let h : ltb c.args.client (min s.clients 8) ≡ true = search rules in
    let x = c.begin_write in
    let z : c.to_bytes.result ≡ layout c.args.content.now = c.to_bytes.ensures in
    let d = done_as m _ _ _ _ (write_step m (view_of m s) c.args.client h (layout c.args.content.now)) (turn_done m s x.new.self.entries c.args.client x.ensures.long x.ensures.framed _ _ (subst (λ r. Turned m (get_or x.new.self.entries c.args.client no_entry) (did x.result) (write_turn m r (client m (entry s c.args.client)) (mails m (entry s c.args.client).post))) z x.ensures.turned)) in
    record { after = d.after; answer = d.answer }
