use Rattle.std.proofs.Common.{sym, subst}
use Rattle.lid_design.specs.declared.Flat.{Flat}
use Rattle.lid_design.specs.Columns.{drivers}
use Rattle.lid_pearl.proofs.Reordering.{reordered_is, driver_back}
use Rattle.lid_check_parts.specs.Standing.{StandsForAll}
use Rattle.lid_net_law.proofs.laws.pearls_stand_for_columns.Goals as goal

pub returns : goal.returns
returns c d col f g re stands =
    subst (λ (h : Flat). StandsForAll (drivers d) col h) (sym (reordered_is f g re))
    (λ k r among. stands k r (driver_back f re.covers.0 re.covers.1 re.covers.3 k r among))
