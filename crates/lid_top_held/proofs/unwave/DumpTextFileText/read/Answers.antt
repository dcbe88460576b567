use Rattle.std.proofs.Common.{subst, sym}
use Rattle.lid_top_script.specs.Scripts.{dump_read}
use Rattle.lid_top_script.specs.Causes.{Declines}
use Rattle.lid_top_held.proofs.Dumps.{dump_is_good, dump_declines}
use Rattle.lid_top_held.proofs.unwave.DumpTextFileText.read.Goals as goal

pub returns-in-Ok-clause-ok : goal.returns-in-Ok-clause-ok
returns-in-Ok-clause-ok c = dump_is_good c.args.bytes.now c.in-Ok.trace c.in-Ok.ensures.ok

pub returns-in-Err-clause-err : goal.returns-in-Err-clause-err
returns-in-Err-clause-err c =
    subst (λ s. Declines (dump_read c.args.bytes.now) s) (sym c.dump_stop.ensures) (dump_declines c.args.bytes.now c.in-Err.fault c.in-Err.ensures.err)
