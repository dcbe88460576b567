use Rattle.lid_design.specs.Walks.{IsDriven}
use Rattle.lid_design.proofs.Tables.{has_table, has_one_table}
use Rattle.lid_system.specs.Systems.{ports_at}
use Rattle.lid_system.specs.Tables.{system_drivers}
use Rattle.lid_system.proofs.Points.{ports_driven, points_once, shell_driven, shell_is}
use Rattle.lid_system.proofs.Walking.{limit, points_end, points_reads_driven}
use Rattle.lid_base.proofs.Alls.{all_from_among}
use Rattle.lid_system.proofs.laws.systems_have_one_table.Goals as goal

pub returns-clause-some : goal.returns-clause-some
returns-clause-some c s well = has_table (system_drivers s) (limit s well) (points_end s well) (points_once s well)

pub returns-clause-one : goal.returns-clause-one
returns-clause-one c s well = has_one_table (system_drivers s) (limit s well) (points_end s well) (points_reads_driven s well)

pub returns-clause-ports : goal.returns-clause-ports
returns-clause-ports c s i well = all_from_among (IsDriven (system_drivers s)) (ports_at s i) (λ a among. ports_driven s well i a among)

pub returns-clause-nets : goal.returns-clause-nets
returns-clause-nets c s i k pearl ins well here below = shell_driven s i k pearl ins here ((shell_is s well i pearl ins here).rules.driven k below)
