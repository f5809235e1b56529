use Rattle.register.proofs.Whole.{meets_only_records}
use Rattle.register.proofs.readable_from.Goals as goal

pub returns-clause-records : goal.returns-clause-records
returns-clause-records g c = meets_only_records g.C.Code.meaning g.met.C.Code.lawful
