use Rattle.std.proofs.Common.{◌≡◌, ◌+◌, ◌-◌, ◌*◌, length, ap, ◌∙◌, arith}
use Rattle.code.specs.Calls.{part}
use Rattle.register.specs.Tables.{upd}
use Rattle.node.proofs.Places.{part_fits, part_written, listed_more}
use Rattle.node.proofs.pieces.Pieces.push.Goals as goal

pub returns-clause-longer : goal.returns-clause-longer
returns-clause-longer g c = λ d.
    let m = g.C.Code.meaning in
    let l = g.met.C.Code.lawful in
    let p = c.args.self.now in
    let fits = part_fits m l p.count c.requires.room in
    let same = c.copy_from_slice.ensures.after in
    let size : length c.copy_from_slice.new.self ≡ m.w = ap length same ∙ c.args.piece.long in
    let written = part_written m.w p.bytes c.copy_from_slice.new.self (p.count * m.w + m.w - p.count * m.w) p.count (omega arith) size (omega arith) ∙ ap (upd (part m.w p.bytes) p.count) same in
    rw (c.from-j.ensures, c.width-w.ensures)
    (listed_more (λ t b. record { tag = t; bytes = b }) p.tags d (part m.w p.bytes) _ p.count m.k c.args.tag c.args.piece.bytes.now c.requires.room (omega arith) written)
