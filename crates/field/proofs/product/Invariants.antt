use Rattle.std.proofs.Common.{◌≡◌, ◌-◌, ◌/◌, ◌^◌}
use Rattle.field.specs.Polynomials.{times_low}
use Rattle.field.proofs.product.Given as goal

abbrev pub invariant-loop-i : goal.invariant-loop-i
invariant-loop-i l = l.sum ≡ times_low (8 - l.i) (l.a / 2 ^ l.i) l.b
