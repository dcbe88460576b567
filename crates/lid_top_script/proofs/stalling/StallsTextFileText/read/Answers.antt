use Rattle.std.proofs.Common.{subst, sym}
use Rattle.lid_top_script.specs.Scripts.{stalls_read}
use Rattle.lid_top_script.specs.Causes.{Declines}
use Rattle.lid_top_script.proofs.Stalls.{stalls_are_good, stalls_decline}
use Rattle.lid_top_script.proofs.stalling.StallsTextFileText.read.Goals as goal

pub returns-in-Ok-clause-ok : goal.returns-in-Ok-clause-ok
returns-in-Ok-clause-ok c = stalls_are_good c.args.bytes.now c.in-Ok.stalls c.in-Ok.ensures.ok

pub returns-in-Err-clause-err : goal.returns-in-Err-clause-err
returns-in-Err-clause-err c = subst (λ s. Declines (stalls_read c.args.bytes.now) s) (sym c.stalls_stop.ensures) (stalls_decline c.args.bytes.now c.in-Err.fault c.in-Err.ensures.err)
