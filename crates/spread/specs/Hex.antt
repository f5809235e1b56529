-- Hex digits.
use Rattle.std.specs.Prelude.{◌≡◌, ℕ, ◌+◌, ◌-◌, ◌*◌, ◌<◌, Bool, cond, ◌&&◌, List, length, Some, None, Option, nat_le, slice_index}

abbrev pub within : ℕ → ℕ → ℕ → Bool
within low high b = nat_le low b && nat_le b high

-- The value of a digit: 0 to 9, and a to f in either case.
abbrev pub digit_of : ℕ → Option ℕ
digit_of b =
    cond (within 48 57 b) (Some (b - 48)) (cond (within 97 102 b) (Some (b - 97 + 10)) (cond (within 65 70 b) (Some (b - 65 + 10)) None))

-- The byte of a high and a low digit.
abbrev pub byte_of : Option ℕ → Option ℕ → Option ℕ
byte_of (Some high) (Some low) = Some (high * 16 + low)
byte_of (Some high) None = None
byte_of None low = None

-- The byte of the two digits of a line that byte k is written as.
abbrev pub byte_at : List ℕ → ℕ → Option ℕ
byte_at line k = byte_of (digit_of (slice_index line (2 * k))) (digit_of (slice_index line (2 * k + 1)))

-- The line is 48 digits, and these are its bytes; or it is not, and there are none.
abbrev pub Read : List ℕ → Option (List ℕ) → Type 0
Read line (Some bytes) = (length line ≡ 48) × ((k : ℕ) → k < 24 → byte_at line k ≡ Some (slice_index bytes k))
Read line None = length line ≡ 48 → (k : ℕ) × (k < 24) × (byte_at line k ≡ None)
