use Rattle.std.proofs.Common.{subst, sym}
use Rattle.lid_top_script.specs.Causes.{FailsNet}
use Rattle.lid_top_script.proofs.Readings.{net_fails}
use Rattle.lid_top_script.proofs.steps.channels_of.Goals as goal

pub returns-in-Err-clause-err : goal.returns-in-Err-clause-err
returns-in-Err-clause-err c =
    subst (λ s. FailsNet c.args.checked.now s) (sym c.net_stop.ensures) (net_fails c.args.checked.now c.in-Err.fault c.in-Err.ensures.err)
