-- Two records are equal if their parts are: the facts in a part's type have one proof at most. Assumes nothing.
use Rattle.std.proofs.Common.{◌≡◌, true, pos, negsuc, ◌≤ℤ◌}
use mathlib.Core.HLevel.{is_prop→PathP}
use denote.Struct.Props.{props}
use Rattle.record.specs.declared.fields.Exponent.{Exponent}
use Rattle.record.specs.declared.fields.Name.{Name as Title}
use Rattle.record.specs.declared.fields.Number.{Number}
use Rattle.record.specs.declared.fields.Record.{Record}
use Rattle.record.specs.Ranges.{named}

exponents_equal : (a b : Exponent) → a.value ≡ b.value → a ≡ b
exponents_equal a b e = λ i. record {
  value = e i;
  low = is_prop→PathP (λ j. negsuc 3 ≤ℤ e j) (λ j. hlevel props) a.low b.low i;
  high = is_prop→PathP (λ j. e j ≤ℤ pos 4) (λ j. hlevel props) a.high b.high i;
}

numbers_equal : (a b : Number) → a.value ≡ b.value → a ≡ b
numbers_equal a b e = λ i. record {
  value = e i;
  low = is_prop→PathP (λ j. negsuc 8999999 ≤ℤ e j) (λ j. hlevel props) a.low b.low i;
  high = is_prop→PathP (λ j. e j ≤ℤ pos 9000000) (λ j. hlevel props) a.high b.high i;
}

names_equal : (a b : Title) → a.bytes ≡ b.bytes → a ≡ b
names_equal a b e = λ i. record {
  bytes = e i;
  readable = is_prop→PathP (λ j. named (e j) ≡ true) (λ j. hlevel props) a.readable b.readable i;
}

pub records_equal : (a b : Record) → a.parameter ≡ b.parameter → a.unit ≡ b.unit → a.exponent.value ≡ b.exponent.value
    → a.name.bytes ≡ b.name.bytes → a.number.value ≡ b.number.value → a ≡ b
records_equal a b p u e n z = λ i. record {
  parameter = p i;
  unit = u i;
  exponent = exponents_equal a.exponent b.exponent e i;
  name = names_equal a.name b.name n i;
  number = numbers_equal a.number b.number z i;
}
