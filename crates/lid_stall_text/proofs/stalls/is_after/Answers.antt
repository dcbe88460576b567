use Rattle.std.proofs.Common.{arith}
use Rattle.lid_stall_text.proofs.Lasts.{after_last}
use Rattle.lid_stall_text.proofs.stalls.is_after.Goals as goal

pub returns-in-len1-up : goal.returns-in-len1-up
returns-in-len1-up c = after_last c.args.stalls.now c.args.cycle _ (omega arith)
