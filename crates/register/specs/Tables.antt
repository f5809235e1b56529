-- Tables as functions of a number, and how many numbers pass a test.
use Rattle.std.specs.Prelude.{ℕ, zero, suc, ◌+◌, Bool, true, false, cond, ◌==◌}

-- The table g with x at place i.
abbrev pub upd : {A : Type 0} → (ℕ → A) → ℕ → A → ℕ → A
upd g i x j = cond (i == j) x (g j)

-- One for a test that passes, and else nothing.
abbrev pub bit : Bool → ℕ
bit true = 1
bit false = 0

-- How many of the l numbers from i on pass the test.
unfoldable pub tally : (ℕ → Bool) → ℕ → ℕ → ℕ
tally test i zero = 0
tally test i (suc l) = bit (test i) + tally test (suc i) l
