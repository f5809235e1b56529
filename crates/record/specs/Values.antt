-- The value of a record, and when two records are the same. Assumes nothing.
use Rattle.std.specs.Prelude.{◌≡◌, ℕ, suc, ◌^◌, Bool, true, false, ◌&&◌, List, ℤ, pos, negsuc, ◌*ℤ◌, ◌==◌}
use Rattle.record.specs.declared.fields.Record.{Record}
use Rattle.record.specs.Units.{unit_code}
use Rattle.record.specs.Making.{Parts, parts_of}
use Rattle.record.specs.Layout.{parts_at}

-- The number over / under.
pub record Fraction : Type 0 where
  pub over : ℤ
  pub under : ℕ

-- The value number × 10^exponent.
abbrev pub scaled : ℤ → ℤ → Fraction
scaled number (pos e) = record { over = number *ℤ pos (10 ^ e); under = 1 }
scaled number (negsuc e) = record { over = number; under = 10 ^ suc e }

abbrev pub eqℤ : ℤ → ℤ → Bool
eqℤ (pos a) (pos b) = a == b
eqℤ (pos a) (negsuc b) = false
eqℤ (negsuc a) (pos b) = false
eqℤ (negsuc a) (negsuc b) = a == b

-- Two fractions a / b and c / d are equal if a × d and c × b are.
abbrev pub equal : Fraction → Fraction → Bool
equal a b = eqℤ (a.over *ℤ pos b.under) (b.over *ℤ pos a.under)

-- The same parameter, the same unit and equal values.
abbrev pub same_parts : Parts → Parts → Bool
same_parts p q =
    (p.parameter == q.parameter)
    && (unit_code p.unit == unit_code q.unit && equal (scaled p.number p.exponent) (scaled q.number q.exponent))

abbrev pub same : Record → Record → Bool
same r s = same_parts (parts_of r) (parts_of s)

-- The same of records that are given by their bytes.
unfoldable pub same_bytes : List ℕ → List ℕ → Bool
same_bytes x y = same_parts (parts_at x) (parts_at y)

-- Everything is like itself, in either order, and along a chain.
pub record Equivalence {A : Type 0} (alike : A → A → Bool) : Type 0 where
  pub itself : (x : A) → alike x x ≡ true
  pub turned : (x y : A) → alike x y ≡ true → alike y x ≡ true
  pub chained : (x y z : A) → alike x y ≡ true → alike y z ≡ true → alike x z ≡ true
