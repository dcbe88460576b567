use Rattle.lid_size_laws.proofs.Forward.{tokens_raise}
use Rattle.lid_size_laws.proofs.laws.tokens_raise_ratios.Goals as goal

pub returns : goal.returns
returns c = tokens_raise
