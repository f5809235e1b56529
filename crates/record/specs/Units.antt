-- The units, by code and by letter. Assumes nothing.
use Rattle.std.specs.Prelude.{ℕ, suc, cond, List, [], ◌∷◌, Some, None, codes, Option, ◌==◌, slice_index, slice_index_or}
use Rattle.record.specs.declared.units.Unit.{Unit as Measure}
use Rattle.record.specs.declared.units.Unit.TheVariants.{Plain, Metre, Bar, Celsius, Second, Ampere, Volt, Revolution}

-- The code of a unit in a record's bytes.
abbrev pub code_of : Measure → ℕ
code_of Plain = 0
code_of Metre = 1
code_of Bar = 2
code_of Celsius = 3
code_of Second = 4
code_of Ampere = 5
code_of Volt = 6
code_of Revolution = 7

-- The code of a unit that is there, and one that no unit has where none is.
abbrev pub unit_code : Option Measure → ℕ
unit_code (Some u) = code_of u
unit_code None = 8

-- The letters in the order of the codes.
abbrev pub letters : List ℕ
letters = codes "-mbCsAVr"

abbrev pub letter_of : ℕ → ℕ
letter_of code = slice_index letters code

-- The unit that has a code.
abbrev pub unit_at : ℕ → Option Measure
unit_at code = slice_index_or (Some Plain ∷ Some Metre ∷ Some Bar ∷ Some Celsius ∷ Some Second ∷ Some Ampere ∷ Some Volt ∷ Some Revolution ∷ []) code None

-- Where c first stands in a list, or the list's length.
abbrev pub place : List ℕ → ℕ → ℕ
place [] c = 0
place (x ∷ xs) c = cond (c == x) 0 (suc (place xs c))

-- The unit that a letter stands for.
abbrev pub unit_of : ℕ → Option Measure
unit_of letter = unit_at (place letters letter)
