use Rattle.register.proofs.Whole.{safe}
use Rattle.register.proofs.most_bytes.Goals as goal

pub returns-clause-every : goal.returns-clause-every
returns-clause-every c = safe
