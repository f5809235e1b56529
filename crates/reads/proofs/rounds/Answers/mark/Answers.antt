use Rattle.std.proofs.Common.{refl}
use mathlib.Core.Path.{fun_ext}
use Rattle.reads.proofs.Marks.{marked}
use Rattle.reads.proofs.rounds.Answers.mark.Goals as goal

pub returns-then-i-lt8 : goal.returns-then-i-lt8
returns-then-i-lt8 c =
    let e = fun_ext c.with_bit-self.ensures in
    record {
      fetched = λ l. e;
      answers = λ m l. marked m c.args.self.now _ c.args.i e;
      nodes = refl;
    }
