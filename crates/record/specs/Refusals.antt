-- Refusals by their numbers. Assumes nothing.
use Rattle.std.specs.Prelude.{ℕ, Bool, cond, List, codes, Some, None, Ok, Err, Option, Result}
use Rattle.record.specs.declared.refusals.RecordError.{RecordError}
use Rattle.record.specs.declared.refusals.RecordError.TheVariants.{Unit, Exponent, Name, Number, Length}

-- The number of each refusal.
abbrev pub refusal : RecordError → ℕ
refusal Unit = 1
refusal Exponent = 2
refusal Name = 3
refusal Number = 4
refusal Length = 5

-- What each refusal says.
abbrev pub sentence : RecordError → List ℕ
sentence Unit = codes "no such unit"
sentence Exponent = codes "the exponent is not -4 to 4"
sentence Name = codes "the name is not sixteen printable bytes"
sentence Number = codes "the number is not -9,000,000 to 9,000,000"
sentence Length = codes "there are not 24 bytes"

-- The number by which a call was refused, if it was.
abbrev pub refused : {A : Type 0} → Result A RecordError → Option ℕ
refused (Ok x) = None
refused (Err e) = Some (refusal e)

-- Where a test fails the call is refused by e, and else it goes on to the rest.
abbrev pub check : Bool → RecordError → Option ℕ → Option ℕ
check passes e rest = cond passes rest (Some (refusal e))
