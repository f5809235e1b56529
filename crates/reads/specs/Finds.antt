-- What was found so far.
use Rattle.std.specs.Prelude.{Bool, true, Some, None, Option}
use Rattle.record.specs.Layout.{layout}
use Rattle.register.specs.Stamps as register
use Rattle.register.specs.Reading.{Rebuilt}
use Rattle.node.specs.Stamped.{stamp}
use Rattle.reads.specs.declared.readable.Found.{Found}

abbrev pub found : Option Found → Option Rebuilt
found None = None
found (Some x) = Some (record { stamp = stamp x.stamp; bytes = layout x.content })

-- A stamp is later than what was found, if anything was.
abbrev pub is_later : register.Stamp → Option Rebuilt → Bool
is_later s None = true
is_later s (Some x) = register.below x.stamp s
