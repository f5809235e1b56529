use Rattle.register.proofs.Whole.{safe}
use Rattle.register.proofs.quorum.Goals as goal

pub returns-clause-safe : goal.returns-clause-safe
returns-clause-safe g c = safe g.C.Code.meaning g.met.C.Code.lawful
