use Rattle.std.proofs.Common.{subst, sym}
use Rattle.lid_top_script.specs.Scripts.{net_reading}
use Rattle.lid_top_script.specs.Causes.{Declines}
use Rattle.lid_top_script.proofs.Readings.{net_good, net_declines}
use Rattle.lid_top_script.proofs.steps.NetTextFileText.read.Goals as goal

pub returns-in-Ok-clause-ok : goal.returns-in-Ok-clause-ok
returns-in-Ok-clause-ok c = net_good c.args.bytes.now c.in-Ok.design c.in-Ok.ensures.ok

pub returns-in-Err-clause-err : goal.returns-in-Err-clause-err
returns-in-Err-clause-err c =
    subst (λ s. Declines (net_reading c.args.bytes.now) s) (sym c.blif_stop.ensures)
    (net_declines c.args.bytes.now c.in-Err.fault c.in-Err.ensures.err)
