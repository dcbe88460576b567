use Rattle.lid_clock_laws.proofs.Had.{markings_have_ratios_and_lags}
use Rattle.lid_clock_laws.proofs.laws.markings_have_ratios_and_lags.Goals as goal

pub returns : goal.returns
returns c = markings_have_ratios_and_lags
