use Rattle.lid_system.proofs.Giving.{given_row}
use Rattle.lid_system.proofs.laws.sources_give_rows.Goals as goal

pub returns : goal.returns
returns c = given_row
