use Rattle.std.proofs.Common.{sym, subst}
use Rattle.lid_design.specs.declared.Flat.{Flat}
use Rattle.lid_design.specs.Network.{IsStrict}
use Rattle.lid_design.specs.Flat.{flat_drivers}
use Rattle.lid_pearl.proofs.Reordering.{reordered_is, strict_there, strict_back}
use Rattle.lid_pearl.proofs.laws.reordered_parts_have_the_same_tables.Goals as goal

pub returns-clause-there : goal.returns-clause-there
returns-clause-there c f g rows b re strict =
    subst (λ (h : Flat). IsStrict (flat_drivers h) rows b) (sym (reordered_is f g re)) (strict_there f re.covers.0 re.covers.1 re.covers.3 rows b strict)

pub returns-clause-back : goal.returns-clause-back
returns-clause-back c f g rows b re strict =
    strict_back f re.covers.0 re.covers.1 re.covers.3 rows b (subst (λ (h : Flat). IsStrict (flat_drivers h) rows b) (reordered_is f g re) strict)
