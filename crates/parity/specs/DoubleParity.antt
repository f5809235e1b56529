-- The double parity of RAID 6, and the matrices that give its rows back.
use Rattle.std.specs.Prelude.{ℕ, ◌+◌, Bool, ◌&&◌, List, [], ◌∷◌, nat_lt, slice_index}

-- Four numbers as a list.
abbrev pub row : ℕ → ℕ → ℕ → ℕ → List ℕ
row a b c d = a ∷ b ∷ c ∷ d ∷ []

-- Four rows as a list.
abbrev pub rows : List ℕ → List ℕ → List ℕ → List ℕ → List (List ℕ)
rows a b c d = a ∷ b ∷ c ∷ d ∷ []

-- Pieces 0 to 3 are the rows, piece 4 is their sum, and piece 5 the sum of 1, 2, 4 and 8 times the rows.
abbrev pub double_parity : List (List ℕ)
double_parity =
    row 1 0 0 0
    ∷ row 0 1 0 0
    ∷ row 0 0 1 0
    ∷ row 0 0 0 1
    ∷ row 1 1 1 1
    ∷ row 1 2 4 8
    ∷ []

-- The numbers are four rising ones below 6.
abbrev pub rises : ℕ → ℕ → ℕ → ℕ → Bool
rises a b c d = nat_lt a b && (nat_lt b c && (nat_lt c d && nat_lt d 6))

-- The numbers in a list are four rising ones below 6.
abbrev pub rising : List ℕ → Bool
rising is = rises (slice_index is 0) (slice_index is 1) (slice_index is 2) (slice_index is 3)

-- The place of four rising numbers among all such choices. Before it come the choices of four below d, then of three below c,
-- of two below b, and of one below a.
abbrev pub rank : ℕ → ℕ → ℕ → ℕ → ℕ
rank a b c d = a + slice_index (0 ∷ 0 ∷ 1 ∷ 3 ∷ 6 ∷ 10 ∷ []) b + slice_index (0 ∷ 0 ∷ 0 ∷ 1 ∷ 4 ∷ 10 ∷ []) c + slice_index (0 ∷ 0 ∷ 0 ∷ 0 ∷ 1 ∷ 5 ∷ []) d

-- The rank of the numbers in a list.
abbrev pub rank_of : List ℕ → ℕ
rank_of is = rank (slice_index is 0) (slice_index is 1) (slice_index is 2) (slice_index is 3)

-- The inverse of the factors of the four pieces of each rank.
abbrev pub solutions : List (List (List ℕ))
solutions =
    rows (row 1 0 0 0) (row 0 1 0 0) (row 0 0 1 0) (row 0 0 0 1)
    ∷ rows (row 1 0 0 0) (row 0 1 0 0) (row 0 0 1 0) (row 1 1 1 1)
    ∷ rows (row 1 0 0 0) (row 0 1 0 0) (row 1 1 1 1) (row 0 0 1 0)
    ∷ rows (row 1 0 0 0) (row 1 1 1 1) (row 0 1 0 0) (row 0 0 1 0)
    ∷ rows (row 1 1 1 1) (row 1 0 0 0) (row 0 1 0 0) (row 0 0 1 0)
    ∷ rows (row 1 0 0 0) (row 0 1 0 0) (row 0 0 1 0) (row 173 71 142 173)
    ∷ rows (row 1 0 0 0) (row 0 1 0 0) (row 71 142 2 71) (row 0 0 1 0)
    ∷ rows (row 1 0 0 0) (row 142 2 4 142) (row 0 1 0 0) (row 0 0 1 0)
    ∷ rows (row 2 4 8 1) (row 1 0 0 0) (row 0 1 0 0) (row 0 0 1 0)
    ∷ rows (row 1 0 0 0) (row 0 1 0 0) (row 200 143 245 61) (row 201 142 244 61)
    ∷ rows (row 1 0 0 0) (row 123 245 166 221) (row 0 1 0 0) (row 122 244 167 221)
    ∷ rows (row 187 210 156 157) (row 1 0 0 0) (row 0 1 0 0) (row 186 211 157 157)
    ∷ rows (row 1 0 0 0) (row 143 2 245 122) (row 142 3 244 122) (row 0 1 0 0)
    ∷ rows (row 245 247 166 167) (row 1 0 0 0) (row 244 246 167 167) (row 0 1 0 0)
    ∷ rows (row 2 6 245 244) (row 3 7 244 244) (row 1 0 0 0) (row 0 1 0 0)
    ∷ []
