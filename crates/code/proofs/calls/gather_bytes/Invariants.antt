use Rattle.std.proofs.Common.{◌≡◌, ℕ, ◌<◌, get_or}
use Rattle.code.specs.Calls.{bytes_of, part}
use Rattle.code.proofs.Default.{none}
use Rattle.code.proofs.calls.gather_bytes.Given as goal

-- the pieces so far lie in their places, and all are bytes
abbrev pub invariant-loop-i : goal.invariant-loop-i
invariant-loop-i l =
    ((m : ℕ) → m < l.i → part l.w l.all m ≡ bytes_of (get_or l.pieces m none)) × ((j : ℕ) → get_or l.all j 0 < 256)
