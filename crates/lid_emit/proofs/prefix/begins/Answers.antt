use Rattle.std.proofs.Common.{◌∙◌}
use Rattle.lid_emit.proofs.Counting.{starts_is}
use Rattle.lid_emit.proofs.prefix.begins.Goals as goal

pub returns : goal.returns
returns c = c.starts_with.ensures.value ∙ starts_is c.args.prefix.now c.args.name.now
