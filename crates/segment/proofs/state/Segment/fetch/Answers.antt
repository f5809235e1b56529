use Rattle.std.proofs.Common.{◌≡◌, ◌<◌, ◌≤◌, min, true, false, ltb, ap, ◌∙◌, arith, rules}
use Rattle.std.proofs.lemmas.Bool.{lt-ltb, le-ltb}
use Rattle.record.specs.Layout.{layout}
use Rattle.register.specs.Machine.{fetch}
use Rattle.segment.specs.Views.{view_of}
use Rattle.segment.specs.Told.{place_after}
use Rattle.segment.proofs.Put.{done_as, turn_done, refused_done}
use Rattle.segment.proofs.Stepped.{no_client, no_node_fetch, fetch_step}
use Rattle.segment.proofs.state.Segment.fetch.Goals as goal

pub returns-then-not-has_client : goal.returns-then-not-has_client
returns-then-not-has_client g c =
    let m = g.C.Code.meaning in
    let s = c.args.self.now.state in
    let h : ltb c.args.client (min s.clients 8) ≡ false = search rules in
    let d = refused_done m s 8 _ (no_client m (view_of m s) (fetch c.args.client c.args.node) h) in
    record { after = d.after; answer = d.answer; place = ap (λ o. place_after o (layout c.args.place.now)) d.answer }

pub returns-then-node-N : goal.returns-then-node-N
returns-then-node-N g c =
    let m = g.C.Code.meaning in
    let s = c.args.self.now.state in
    let h : ltb c.args.client (min s.clients 8) ≡ true = search rules in
    let n = c.N.ensures ∙ g.met.C.Code.n_is in
    let l : m.n ≤ c.args.node = omega arith in
    let d = refused_done m s 9 _ (no_node_fetch m (view_of m s) c.args.client h c.args.node (le-ltb c.args.node m.n l)) in
    record { after = d.after; answer = d.answer; place = ap (λ o. place_after o (layout c.args.place.now)) d.answer }

pub returns : goal.returns
returns g c =
    let m = g.C.Code.meaning in
    let s = c.args.self.now.state in
    let h : ltb c.args.client (min s.clients 8) ≡ true = search rules in
    let n = c.N.ensures ∙ g.met.C.Code.n_is in
    let l : c.args.node < m.n = omega arith in
    let x = c.fetch in
    let d = done_as m _ _ _ _ (fetch_step m (view_of m s) c.args.client h c.args.node (lt-ltb c.args.node m.n l))
    (turn_done m s x.new.self.entries c.args.client x.ensures.long x.ensures.framed _ _ x.ensures.turned) in
    record { after = d.after; answer = d.answer; place = x.ensures.place ∙ ap (λ o. place_after o (layout c.args.place.now)) d.answer }
