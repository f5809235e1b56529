-- Parts that are equal one by one. Assumes nothing.
use Rattle.std.proofs.Common.{◌≡◌, ℕ, List, ℤ, Option}
use Rattle.record.specs.declared.units.Unit.{Unit as Measure}
use Rattle.record.specs.Making.{parts}

-- parts, each equal to its other
pub same_parts : {p p' : ℕ} {u u' : Option Measure} {e e' : ℤ} {n n' : List ℕ} {z z' : ℤ}
    → p ≡ p' → u ≡ u' → e ≡ e' → n ≡ n' → z ≡ z' → parts p u e n z ≡ parts p' u' e' n' z'
same_parts a b c d e = cc
