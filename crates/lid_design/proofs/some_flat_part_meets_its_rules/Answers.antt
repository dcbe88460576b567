use Rattle.lid_design.proofs.Example.{part_meets}
use Rattle.lid_design.proofs.some_flat_part_meets_its_rules.Goals as goal

pub returns : goal.returns
returns c = part_meets
