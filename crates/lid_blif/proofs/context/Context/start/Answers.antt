use Rattle.std.proofs.Common.{refl}
use Rattle.lid_blif.specs.Faults.{context_of}
use Rattle.lid_blif.proofs.context.Context.start.Goals as goal

pub returns : goal.returns
unfolding context_of
returns c = refl
