-- What a code means, and when it is lawful.
-- A code spreads a record of 24 bytes over n nodes: each holds one piece of w bytes, and any k pieces give the record back.
use Rattle.std.specs.Prelude.{◌≡◌, ℕ, ◌+◌, ◌*◌, ◌<◌, ◌≤◌, Bool, true, ◌&&◌, T, List, [], ◌∷◌, map, length, nat_lt}
use Rattle.std.specs.List.{list_all}
use Rattle.code.specs.Bytes.{Bytes}

-- What a code means.
pub record Meaning : Type 0 where
  -- how many pieces give the record back
  pub k : ℕ
  -- how many nodes there are, each with one piece
  pub n : ℕ
  -- how many nodes may be silent
  pub f : ℕ
  -- how many bytes a piece has
  pub w : ℕ
  -- the piece that 24 bytes have at a piece number
  pub piece : List ℕ → ℕ → List ℕ
  -- the 24 bytes that have, at these numbers, these pieces
  pub join : List ℕ → List (List ℕ) → List ℕ

-- Each number is below n.
abbrev pub all_below : ℕ → List ℕ → Bool
all_below n is = list_all (λ i. nat_lt i n) is

-- Each number is above the one before it, the first above i.
abbrev pub rising_from : ℕ → List ℕ → Bool
rising_from i [] = true
rising_from i (j ∷ js) = nat_lt i j && rising_from j js

-- Each number is above the one before it.
abbrev pub rising : List ℕ → Bool
rising [] = true
rising (i ∷ is) = rising_from i is

-- The list is k rising piece numbers below n.
pub record Chosen (k n : ℕ) (is : List ℕ) : Type 0 where
  -- there are k of them
  pub count : length is ≡ k
  -- each is below n
  pub below : T (all_below n is)
  -- they rise
  pub rise : T (rising is)

-- Each piece is w bytes.
abbrev pub AllBytes : ℕ → List (List ℕ) → Type 0
AllBytes w [] = Unit {0}
AllBytes w (p ∷ ps) = Bytes w p × AllBytes w ps

-- The numbers and pieces are enough to join: k rising numbers, and k pieces of w bytes.
pub record Enough (m : Meaning) (is : List ℕ) (ps : List (List ℕ)) : Type 0 where
  -- the numbers are k rising ones below n
  pub chosen : Chosen m.k m.n is
  -- there is a piece for each number
  pub count : length ps ≡ m.k
  -- each piece is w bytes
  pub bytes : AllBytes m.w ps

-- The list x is 24 bytes that have, at these numbers, these pieces.
pub record Has (m : Meaning) (is : List ℕ) (ps : List (List ℕ)) (x : List ℕ) : Type 0 where
  -- it is 24 bytes
  pub bytes : Bytes 24 x
  -- its pieces at the numbers are the given ones
  pub pieces : map (m.piece x) is ≡ ps

-- What every code must show.
pub record Lawful (m : Meaning) : Type 0 where
  -- at least one piece is needed
  pub needed : 1 ≤ m.k
  -- at least one node may be silent
  pub silent : 1 ≤ m.f
  -- the needed pieces are together as long as the record
  pub sizes : m.k * m.w ≡ 24
  -- where f nodes miss one call and f others the next, k nodes take part in both
  pub nodes : m.n ≡ 2 * m.f + m.k
  -- there are at most eight nodes
  pub few : m.n ≤ 8
  -- a piece of 24 bytes is w bytes
  pub piece_bytes : (x : List ℕ) (i : ℕ) → Bytes 24 x → i < m.n → Bytes m.w (m.piece x i)
  -- enough pieces come from some 24 bytes: those that joining gives
  pub exist : (is : List ℕ) (ps : List (List ℕ)) → Enough m is ps → Has m is ps (m.join is ps)
  -- and from no others
  pub only : (is : List ℕ) (ps : List (List ℕ)) (x : List ℕ) → Enough m is ps → Has m is ps x → x ≡ m.join is ps

-- The list x is the one and only 24 bytes with these pieces.
pub record Only (m : Meaning) (is : List ℕ) (ps : List (List ℕ)) (x : List ℕ) : Type 0 where
  -- it has the pieces
  pub has : Has m is ps x
  -- whatever has them too is the same
  pub alone : (y : List ℕ) → Has m is ps y → y ≡ x

-- Enough pieces come from one and only one 24 bytes.
abbrev pub OneAndOnly : Meaning → Type 0
OneAndOnly m = (is : List ℕ) (ps : List (List ℕ)) → Enough m is ps → (x : List ℕ) × Only m is ps x

-- Joining any k pieces of 24 bytes gives these bytes back.
abbrev pub Rebuilds : Meaning → Type 0
Rebuilds m = (x : List ℕ) (is : List ℕ) → Bytes 24 x → Chosen m.k m.n is → m.join is (map (m.piece x) is) ≡ x
