-- Which requests wait.
use Rattle.std.specs.Prelude.{◌≡◌, ℕ, ◌<◌, Bool, true, false, Some, None, Option}
use Rattle.segment.specs.declared.state.Mail.{Mail}
use Rattle.segment.specs.declared.state.Mail.TheVariants.{Empty, Waiting, Looked, Stored, Settled}

abbrev pub is_waiting : Mail → Bool
is_waiting Empty = false
is_waiting Waiting = true
is_waiting Looked = false
is_waiting Stored = false
is_waiting Settled = false

-- Some number below n that passes the test, or none if no such number does.
abbrev pub First : (ℕ → Bool) → ℕ → Option ℕ → Type 0
First test n None = (i : ℕ) → i < n → test i ≡ false
First test n (Some i) = (i < n) × (test i ≡ true)
