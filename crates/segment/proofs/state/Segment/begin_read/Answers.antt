use Rattle.std.proofs.Common.{◌≡◌, min, true, false, ltb, rules}
use Rattle.register.specs.Machine.{begin_read}
use Rattle.segment.specs.Views.{view_of}
use Rattle.segment.proofs.Put.{done_as, turn_done, refused_done}
use Rattle.segment.proofs.Stepped.{no_client, read_step}
use Rattle.segment.proofs.state.Segment.begin_read.Goals as goal

pub returns-then-not-has_client : goal.returns-then-not-has_client
returns-then-not-has_client g c =
    let m = g.C.Code.meaning in
    let s = c.args.self.now.state in
    let h : ltb c.args.client (min s.clients 8) ≡ false = search rules in
    let d = refused_done m s 8 _ (no_client m (view_of m s) (begin_read c.args.client c.args.rounds) h) in
    record { after = d.after; answer = d.answer }

pub returns : goal.returns
returns g c =
    let m = g.C.Code.meaning in
    let s = c.args.self.now.state in
    let h : ltb c.args.client (min s.clients 8) ≡ true = search rules in
    let x = c.begin_read in
    let d = done_as m _ _ _ _ (read_step m (view_of m s) c.args.client h _) (turn_done m s x.new.self.entries c.args.client x.ensures.long x.ensures.framed _ _ x.ensures.turned) in
    record { after = d.after; answer = d.answer }
