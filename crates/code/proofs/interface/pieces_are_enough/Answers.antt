use Rattle.code.proofs.Laws.{one_and_only, rebuilds}
use Rattle.code.proofs.interface.pieces_are_enough.Goals as goal

pub returns : goal.returns
returns g c =
    let m = g.C.Code.meaning in
    let law = g.met.C.Code.lawful in
    record { one = one_and_only m law; back = rebuilds m law }
