-- What a stamp in memory means.
use Rattle.register.specs.Stamps as register
use Rattle.node.specs.declared.stamps.Stamp.{Stamp}

abbrev pub stamp : Stamp → register.Stamp
stamp s = record { count = s.count; client = s.client }
