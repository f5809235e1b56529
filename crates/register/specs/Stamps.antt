-- Stamps, and their order.
use Rattle.std.specs.Prelude.{◌≡◌, ℕ, Bool, true, false, cond, ◌&&◌, ◌||◌, ◌==◌, nat_lt}

-- A count, and the number of the client that took it.
pub record Stamp : Type 0 where
  pub count : ℕ
  pub client : ℕ

-- Stamps are ordered by count, then by client.
unfoldable pub below : Stamp → Stamp → Bool
below s t = nat_lt s.count t.count || (s.count == t.count && nat_lt s.client t.client)

-- Two stamps are one.
unfoldable pub same_stamp : Stamp → Stamp → Bool
same_stamp s t = s.count == t.count && s.client == t.client

-- The higher of two stamps.
abbrev pub higher : Stamp → Stamp → Stamp
higher s t = cond (below s t) t s

-- The lowest stamp.
abbrev pub lowest : Stamp
lowest = record { count = 0; client = 0 }

-- What has the stamp s stands earlier than what has the stamp t.
abbrev pub Earlier : Stamp → Stamp → Type 0
Earlier s t = below s t ≡ true

-- What has the stamp s stands no later than what has the stamp t.
abbrev pub NoLater : Stamp → Stamp → Type 0
NoLater s t = below t s ≡ false
