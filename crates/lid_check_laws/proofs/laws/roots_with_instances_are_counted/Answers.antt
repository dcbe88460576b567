use Rattle.lid_check_laws.proofs.Counted.{cells_are, nets_fit}
use Rattle.lid_check_laws.proofs.laws.roots_with_instances_are_counted.Goals as goal

pub returns-clause-cells : goal.returns-clause-cells
returns-clause-cells c d m formed root plain = cells_are d formed m root plain

pub returns-clause-nets : goal.returns-clause-nets
returns-clause-nets c d m formed root plain = nets_fit d formed m root plain
