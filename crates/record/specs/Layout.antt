-- A record as 24 bytes: 0 and 1 the parameter, 2 the unit's code, 3 the exponent, 4 to 19 the name, 20 to 23 the number.
-- Numbers of several bytes stand high byte first; exponent and number are in two's complement. Assumes nothing.
use Rattle.std.specs.Prelude.{◌≡◌, ℕ, ◌+◌, ◌*◌, ◌/◌, ◌%◌, Bool, cond, not, List, [], ◌∷◌, ◌++◌, length, take, drop, is_some, Some, None, Ok, Option, Result, ◌==◌, slice_index}
use Rattle.std.specs.Int.{w8, w32}
use Rattle.std.proofs.Common.{to_z, of_z}
use Rattle.record.specs.declared.fields.Record.{Record}
use Rattle.record.specs.declared.refusals.RecordError.{RecordError}
use Rattle.record.specs.declared.refusals.RecordError.TheVariants.{Length}
use Rattle.record.specs.Units.{code_of, unit_at}
use Rattle.record.specs.Refusals.{check}
use Rattle.record.specs.Making.{Parts, parts, parts_refusal}

-- A number as four bytes, and the number of the four bytes from i on.
abbrev pub four_bytes : ℕ → List ℕ
four_bytes n = (n / 16777216 % 256) ∷ (n / 65536 % 256) ∷ (n / 256 % 256) ∷ (n % 256) ∷ []

abbrev pub four_at : List ℕ → ℕ → ℕ
four_at x i = slice_index x i * 16777216 + slice_index x (i + 1) * 65536 + slice_index x (i + 2) * 256 + slice_index x (i + 3)

-- Parameter, unit and exponent.
abbrev pub head_bytes : Record → List ℕ
head_bytes r = (r.parameter / 256) ∷ (r.parameter % 256) ∷ code_of r.unit ∷ of_z w8 r.exponent.value ∷ []

-- The bytes of a record.
unfoldable pub layout : Record → List ℕ
layout r = head_bytes r ++ (r.name.bytes ++ four_bytes (of_z w32 r.number.value))

-- The parts where the layout has them.
abbrev pub parts_at : List ℕ → Parts
parts_at x = parts (slice_index x 0 * 256 + slice_index x 1) (unit_at (slice_index x 2)) (to_z w8 (slice_index x 3)) (take 16 (drop 4 x)) (to_z w32 (four_at x 20))

-- Why bytes are no record: the length first, then the parts.
abbrev pub bytes_refusal : List ℕ → Option ℕ
bytes_refusal x = check (length x == 24) Length (parts_refusal (parts_at x))

-- A record lies in the bytes.
unfoldable pub is_record : List ℕ → Bool
is_record x = not (is_some (bytes_refusal x))

-- The bytes, if a record lies in them.
abbrev pub lying_in : List ℕ → Option (List ℕ)
lying_in x = cond (is_record x) (Some x) None

-- Record, bytes, record: if a record lies in the bytes, the answer is that record.
abbrev pub Rereads : List ℕ → Result Record RecordError → Type 0
Rereads bytes answer = (x : Record) → layout x ≡ bytes → answer ≡ Ok x
