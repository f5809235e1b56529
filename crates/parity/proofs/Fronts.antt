-- The row in front of other bytes.
use Rattle.std.proofs.Common.{◌≡◌, ℕ, List, ◌++◌, length, take, ap, ◌∙◌}
use Rattle.std.proofs.lemmas.List.{take_at}

pub front : (bytes rest row : List ℕ) → bytes ≡ row → length row ≡ 6 → take 6 (bytes ++ rest) ≡ row
front bytes rest row same long = take_at bytes rest 6 (ap length same ∙ long) ∙ same
