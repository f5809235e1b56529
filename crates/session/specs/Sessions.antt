-- Sessions, and what the calls that give or take one tell their callers.
use Rattle.std.specs.Prelude.{ℕ, Ok, Err, Result}
use Rattle.session.specs.declared.Session.{Session}
use Rattle.segment.specs.declared.refusals.Refusal.{Refusal}
use Rattle.segment.specs.Refusals.{refusal}
use Rattle.segment.specs.Told.{Told, no, done}

-- The client that a session calls as.
abbrev pub client_of : Session → ℕ
client_of s = s.client

-- A sign-on that gives a session.
abbrev pub signed_on : Result Session Refusal → Told
signed_on (Ok s) = done
signed_on (Err e) = no (refusal e)

-- A sign-off that hands the session back where it is refused.
abbrev pub signed_off : Result (Unit {0}) (Session × Refusal) → Told
signed_off (Ok u) = done
signed_off (Err (s, e)) = no (refusal e)
