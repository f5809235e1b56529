-- A value in ten-thousandths, a whole number for every exponent from -4 on. Assumes nothing.
use Rattle.std.specs.Prelude.{ℕ, ◌+◌, ◌-◌, ◌^◌, ℤ, pos, negsuc, ◌*ℤ◌}

-- The exponent plus 4.
abbrev pub raised : ℤ → ℕ
raised (pos e) = e + 4
raised (negsuc e) = 3 - e

abbrev pub ten_thousandths : ℤ → ℤ → ℤ
ten_thousandths number exponent = number *ℤ pos (10 ^ raised exponent)
