use Rattle.lid_vcd_laws.proofs.Refused.{refusals_are_first}
use Rattle.lid_vcd_laws.proofs.laws.refusals_are_first.Goals as goal

pub returns : goal.returns
returns c = refusals_are_first
