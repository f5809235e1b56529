use Rattle.std.proofs.Common.{◌^◌, ◌<◌, sym, subst, arith}
use Rattle.register.specs.Promises.{ARecord}
use Rattle.segment.proofs.Laid.{a_record}
use Rattle.segment.proofs.laying.first_bytes.Goals as goal

pub returns : goal.returns
returns c =
    let r = c.args.first in
    let fits : r.parameter < 2 ^ 16 = omega arith in
    record { bytes = c.to_bytes.ensures; proper = subst ARecord (sym c.to_bytes.ensures) (a_record r fits) }
