use Rattle.lid_check_models.proofs.Placed.{counts_sum}
use Rattle.lid_check_models.proofs.sums.counts_are_sums.Goals as goal

pub returns : goal.returns
returns c = counts_sum
