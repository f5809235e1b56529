use Rattle.std.proofs.Common.{◌≡◌, ℕ, ◌<◌}
use Rattle.field.specs.Polynomials.{byte}
use Rattle.field.proofs.Lanes.{high}
use Rattle.field.proofs.combined.Given as goal

abbrev pub invariant-loop-i : goal.invariant-loop-i
invariant-loop-i l = (b : ℕ) → b < 8 → byte l.total b ≡ high l.factors l.words b l.i
