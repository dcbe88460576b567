use Rattle.lid_design.proofs.Tables.{has_table, has_one_table}
use Rattle.lid_design.proofs.networks_have_one_table.Goals as goal

pub returns : goal.returns
returns c = record { some = has_table; one = has_one_table }
