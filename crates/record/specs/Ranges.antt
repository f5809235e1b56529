-- The ranges that every record keeps. Assumes nothing.
use Rattle.std.specs.Prelude.{ℕ, Bool, true, ◌&&◌, ◌-◌, List, [], ◌∷◌, length, take, ℤ, pos, negsuc, ◌==◌, int_le, nat_le}
use Rattle.std.specs.List.{suffix_len}

-- The number z is at least low and at most high.
abbrev pub within : ℤ → ℤ → ℤ → Bool
within low high z = int_le low z && int_le z high

-- An exponent is -4 to 4.
abbrev pub exponent_fits : ℤ → Bool
exponent_fits z = within (negsuc 3) (pos 4) z

-- A number is -9,000,000 to 9,000,000.
abbrev pub number_fits : ℤ → Bool
number_fits z = within (negsuc 8999999) (pos 9000000) z

-- Each byte is 32 to 126.
abbrev pub printable : List ℕ → Bool
printable [] = true
printable (b ∷ bs) = (nat_le 32 b && nat_le b 126) && printable bs

-- A name is sixteen printable bytes.
abbrev pub named : List ℕ → Bool
named x = length x == 16 && printable x

-- A name as it is shown: without its ending spaces.
abbrev pub shown : List ℕ → List ℕ
shown x = take (length x - suffix_len (λ b. b == 32) x) x
