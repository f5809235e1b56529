use Rattle.std.proofs.Common.{◌≡◌}
use Rattle.field.specs.Polynomials.{squared, squares}
use Rattle.field.proofs.inverse.Given as goal

abbrev pub invariant-loop : goal.invariant-loop
invariant-loop l = (l.root ≡ squared l.counter l.a) × (l.power ≡ squares l.counter l.a)
