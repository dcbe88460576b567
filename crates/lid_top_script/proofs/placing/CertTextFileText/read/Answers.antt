use Rattle.std.proofs.Common.{subst, sym}
use Rattle.lid_top_script.specs.Scripts.{cert_read}
use Rattle.lid_top_script.specs.Causes.{Declines}
use Rattle.lid_top_script.proofs.Placements.{cert_good, cert_declines}
use Rattle.lid_top_script.proofs.placing.CertTextFileText.read.Goals as goal

pub returns-in-Ok-clause-ok : goal.returns-in-Ok-clause-ok
returns-in-Ok-clause-ok c = cert_good c.args.bytes.now c.in-Ok.cert c.in-Ok.ensures.ok

pub returns-in-Err-clause-err : goal.returns-in-Err-clause-err
returns-in-Err-clause-err c =
    subst (λ s. Declines (cert_read c.args.bytes.now) s) (sym c.cert_stop.ensures) (cert_declines c.args.bytes.now c.in-Err.fault c.in-Err.ensures.err)
