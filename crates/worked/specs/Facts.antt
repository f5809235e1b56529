-- Worked facts: numbers that the definitions give, each as a test.
use Rattle.std.specs.Prelude.{ℕ, Bool, false, not, ◌&&◌, List, [], ◌∷◌, ◌++◌, replicate, ℤ, pos, negsuc, is_some, Some, None, codes, Option, ◌==◌, slice_index}
use Rattle.record.specs.declared.units.Unit.TheVariants.{Bar}
use Rattle.record.specs.Making.{Parts, parts, parts_refusal}
use Rattle.record.specs.Layout.{bytes_refusal}
use Rattle.record.specs.Values.{same_parts}
use Rattle.code.specs.Meaning.{Meaning}
use Rattle.parity.specs.DoubleParity.{double_parity}
use Rattle.parity.specs.Rows.{row_code}
use Rattle.whiten.specs.Whitening.{whitened}
use Rattle.register.specs.Stamps.{Stamp, below}
use Rattle.register.specs.Example.{oven}

-- ---- what the facts speak of

-- The double parity as a code.
abbrev pub p6 : Meaning
p6 = row_code double_parity 1

-- Byte b of piece i of 24 bytes.
abbrev pub piece_byte : Meaning → List ℕ → ℕ → ℕ → ℕ
piece_byte m x i b = slice_index (m.piece x i) b

-- 24 bytes whose column 0 has these four rows; the other columns are 0.
abbrev pub column : ℕ → ℕ → ℕ → ℕ → List ℕ
column a b c d = (a ∷ replicate 5 0) ++ ((b ∷ replicate 5 0) ++ ((c ∷ replicate 5 0) ++ (d ∷ replicate 5 0)))

-- The column of these 24 bytes has the parities p and q: byte 0 of pieces 4 and 5.
abbrev pub has_parities : ℕ → ℕ → List ℕ → Bool
has_parities p q x = piece_byte p6 x 4 0 == p && piece_byte p6 x 5 0 == q

-- Parameter 7, in bar, named oven, with this number and exponent.
abbrev pub setpoint : ℤ → ℤ → Parts
setpoint number exponent = parts 7 (Some Bar) exponent (codes "oven" ++ replicate 12 32) number

-- Nothing refuses.
abbrev pub passes : Option ℕ → Bool
passes o = not (is_some o)

-- The refusal has this number.
abbrev pub refused_by : ℕ → Option ℕ → Bool
refused_by n None = false
refused_by n (Some e) = e == n

-- The stamp that a client took with a count.
abbrev pub stamp : ℕ → ℕ → Stamp
stamp count client = record { count = count; client = client }

-- ---- the facts

-- Rows 1, 2, 3 and 4 have the parities 4 and 41.
abbrev pub rows_1234 : Bool
rows_1234 = has_parities 4 41 (column 1 2 3 4)

-- Rows 0, 128, 0 and 0 have the parities 128 and 29.
abbrev pub row_1_is_128 : Bool
row_1_is_128 = has_parities 128 29 (column 0 128 0 0)

-- Rows 0, 0, 0 and 128 have the parities 128 and 116.
abbrev pub row_3_is_128 : Bool
row_3_is_128 = has_parities 128 116 (column 0 0 0 128)

-- Number 50 with exponent -1 is the same as 5 with 0.
abbrev pub same_value : Bool
same_value = same_parts (setpoint (pos 50) (negsuc 0)) (setpoint (pos 5) (pos 0))

-- Number 50 with exponent -1 is not the same as 50 with 0.
abbrev pub other_value : Bool
other_value = not (same_parts (setpoint (pos 50) (negsuc 0)) (setpoint (pos 50) (pos 0)))

-- Number 9,000,000 passes.
abbrev pub number_passes : Bool
number_passes = passes (parts_refusal (setpoint (pos 9000000) (pos 0)))

-- Number 9,000,001 is refused by 4.
abbrev pub number_refused : Bool
number_refused = refused_by 4 (parts_refusal (setpoint (pos 9000001) (pos 0)))

-- Exponent byte 252 passes.
abbrev pub exponent_passes : Bool
exponent_passes = passes (bytes_refusal (oven 252))

-- Exponent byte 251 is refused by 2.
abbrev pub exponent_refused : Bool
exponent_refused = refused_by 2 (bytes_refusal (oven 251))

-- Stamp (2, 0) stands above stamp (1, 7).
abbrev pub count_before_client : Bool
count_before_client = below (stamp 1 7) (stamp 2 0)

-- Whitening turns byte 1 of piece 5 from 0 into 201.
abbrev pub whitens : Bool
whitens = piece_byte p6 (replicate 24 0) 5 1 == 0 && piece_byte (whitened p6) (replicate 24 0) 5 1 == 201

-- All of them.
abbrev pub facts : List Bool
facts =
    rows_1234 ∷ row_1_is_128 ∷ row_3_is_128 ∷ same_value ∷ other_value ∷ number_passes ∷ number_refused
    ∷ exponent_passes ∷ exponent_refused ∷ count_before_client ∷ whitens ∷ []
