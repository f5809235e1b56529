use Rattle.std.proofs.Common.{◌≡◌, length, sym, ap, ◌∙◌, subst}
use Rattle.code.specs.Meaning.{Only}
use Rattle.code.specs.Calls.{numbers_of, contents_of, written}
use Rattle.code.proofs.Laws.{joined_only}
use Rattle.code.proofs.Joins.{joinable, carried_out, decoded}
use Rattle.code.proofs.interface.Code.join.Goals as goal

pub returns : goal.returns
returns g c =
    let m = g.Self.Code.meaning in
    let law = g.met.Self.Code.lawful in
    let xs = c.args.pieces.now in
    let is = numbers_of xs in
    let ps = contents_of xs in
    let room = length c.args.place.now in
    let n = c.N.result in
    let k = c.K.result in
    let w = c.width-w.result in
    let k_is = c.K.ensures ∙ g.met.Self.Code.k_is in
    let w_is = c.width-w.ensures in
    let n_is = c.N.ensures ∙ g.met.Self.Code.n_is in
    let fits = c.if-not-fits.ensures in
    let known = c.if-not-known.ensures in
    let order = c.if-not-in_order.ensures in
    let stored : c.copy_from_slice.new.self ≡ m.join is ps =
    c.copy_from_slice.ensures.after
    ∙ decoded m law xs room k w k_is w_is fits n n_is known order c.gather_numbers.result c.gather_bytes.new.all
    c.decode-whole.result c.gather_numbers.ensures c.gather_bytes.ensures.parts c.decode-whole.ensures in
    let free = carried_out m law xs room k w k_is w_is fits n n_is known order in
    let enough = joinable m law xs room k w k_is w_is fits n n_is known order c.gather_bytes.ensures.bytes in
    record {
      refuses = free;
      writes = stored ∙ ap (λ r. written r (m.join is ps) c.args.place.now) free;
      only = subst (Only m is ps) (sym stored) (joined_only m law is ps enough);
    }
