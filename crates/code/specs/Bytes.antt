-- Lists of bytes.
use Rattle.std.specs.Prelude.{◌≡◌, ℕ, ◌<◌, List, length, slice_index}

-- The list x is m bytes. Past its end `slice_index` gives 0, so the bound can be said of every place.
pub record Bytes (m : ℕ) (x : List ℕ) : Type 0 where
  -- there are m of them
  pub long : length x ≡ m
  -- each is below 256
  pub small : (j : ℕ) → slice_index x j < 256
