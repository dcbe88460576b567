use Rattle.lid_size_laws.proofs.Forward.{above_none, ratios_stay, ratios_spread, are_kept, are_compared}
use Rattle.lid_size_laws.proofs.laws.forward_ratios_bound.Goals as goal

pub returns : goal.returns
returns c = record { most = above_none; stay = ratios_stay; spread = ratios_spread; kept = are_kept; compared = are_compared }
