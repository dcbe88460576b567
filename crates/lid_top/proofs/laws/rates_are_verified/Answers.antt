use Rattle.lid_top.proofs.Verified.{rates_verified}
use Rattle.lid_top.proofs.laws.rates_are_verified.Goals as goal

pub returns : goal.returns
returns c = rates_verified
