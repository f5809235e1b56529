use Rattle.std.proofs.Common.{arith, rules}
use Rattle.node.proofs.Listed.{tags_are}
use Rattle.node.proofs.pieces.Pieces.tags.Goals as goal

pub returns-clause-listed : goal.returns-clause-listed
returns-clause-listed g c = λ d.
    let few = tags_are d g.C.Code.meaning c.args.self.now (omega arith) in
    search rules
