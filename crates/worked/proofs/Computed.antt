-- The worked facts, computed.
use Rattle.std.proofs.Common.{◌≡◌, true, refl}
use Rattle.std.specs.List.{list_all}
use Rattle.field.specs.Polynomials.{twice, times}
use Rattle.register.specs.Stamps.{below}
use Rattle.worked.specs.Facts.{facts}

-- every fact holds
pub all_hold : list_all (λ b. b) facts ≡ true
unfolding twice times below
all_hold = refl
