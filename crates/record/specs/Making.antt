-- A record from its parts. Assumes nothing.
use Rattle.std.specs.Prelude.{ℕ, List, ℤ, is_some, Some, None, Option}
use Rattle.record.specs.declared.units.Unit.{Unit as Measure}
use Rattle.record.specs.declared.fields.Record.{Record}
use Rattle.record.specs.Ranges.{exponent_fits, number_fits, named}
use Rattle.record.specs.declared.refusals.RecordError.TheVariants.{Unit, Exponent, Name, Number}
use Rattle.record.specs.Refusals.{check}

abbrev pub unit_refusal : Option Measure → Option ℕ
unit_refusal u = check (is_some u) Unit None

abbrev pub exponent_refusal : ℤ → Option ℕ
exponent_refusal z = check (exponent_fits z) Exponent None

abbrev pub name_refusal : List ℕ → Option ℕ
name_refusal x = check (named x) Name None

abbrev pub number_refusal : ℤ → Option ℕ
number_refusal z = check (number_fits z) Number None

-- What a record is to be made of; there may be no such unit.
pub record Parts : Type 0 where
  pub parameter : ℕ
  pub unit : Option Measure
  pub exponent : ℤ
  pub name : List ℕ
  pub number : ℤ

abbrev pub parts : ℕ → Option Measure → ℤ → List ℕ → ℤ → Parts
parts p u e n z = record { parameter = p; unit = u; exponent = e; name = n; number = z }

-- The first part that is none refuses, in this order: unit, exponent, name, number.
abbrev pub parts_refusal : Parts → Option ℕ
parts_refusal q =
    check (is_some q.unit) Unit
    (check (exponent_fits q.exponent) Exponent (check (named q.name) Name (check (number_fits q.number) Number None)))

-- What a record is made of.
abbrev pub parts_of : Record → Parts
parts_of r = parts r.parameter (Some r.unit) r.exponent.value r.name.bytes r.number.value
