-- A record spread over the nodes of a code.
use Rattle.std.specs.Prelude.{◌≡◌, ℕ, List, map, vec_items, Vec}
use Rattle.std.specs.List.{range_with_len}
use Rattle.std.specs.declared.alloc.Global.{Global}
use Rattle.code.specs.declared.calls.Piece.{Piece}
use Rattle.code.specs.Calls.{contents_of, numbers_of}
use Rattle.code.specs.Meaning.{Meaning}

-- The bytes that each node holds.
abbrev pub held : List (Vec ℕ Global) → List (List ℕ)
held pieces = map vec_items pieces

-- Each node holds its piece of x.
abbrev pub Spread : Meaning → List ℕ → List (Vec ℕ Global) → Type 0
Spread m x pieces = held pieces ≡ map (m.piece x) (range_with_len 0 m.n)

-- Whatever record the nodes hold the pieces of, these are pieces of it at their numbers.
abbrev pub Picked : Meaning → List (Vec ℕ Global) → List Piece → Type 0
Picked m pieces ps = (x : List ℕ) → Spread m x pieces → contents_of ps ≡ map (m.piece x) (numbers_of ps)
