-- Copies: each node holds the whole record.
use Rattle.std.specs.Prelude.{ℕ, ◌+◌, ◌*◌, [], slice_index_or}
use Rattle.code.specs.Meaning.{Meaning}

-- 2 f + 1 copies, of which f may be silent: each piece is the record, and the one that is taken gives it back.
abbrev pub copies : ℕ → Meaning
copies f = record { k = 1; n = 2 * f + 1; f = f; w = 24; piece = λ x i. x; join = λ is ps. slice_index_or ps 0 [] }
