use Rattle.register.proofs.Ends.{progress}
use Rattle.register.proofs.write_rounds.Goals as goal

pub returns-clause-ends : goal.returns-clause-ends
returns-clause-ends g c = progress g.C.Code.meaning g.met.C.Code.lawful
