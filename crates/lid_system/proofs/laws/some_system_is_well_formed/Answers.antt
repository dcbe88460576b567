use Rattle.std.proofs.Common.{refl}
use Rattle.lid_system.proofs.Example.{chain, chain_is}
use Rattle.lid_system.proofs.laws.some_system_is_well_formed.Goals as goal

pub returns : goal.returns
returns c =
    let part = c.some_flat_part_meets_its_rules.ensures in
    (chain part.0 part.1 part.2 part.5, chain_is part.0 part.1 part.2 part.5, refl, refl)
