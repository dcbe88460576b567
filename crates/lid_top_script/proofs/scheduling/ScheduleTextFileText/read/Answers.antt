use Rattle.std.proofs.Common.{subst, sym}
use Rattle.lid_top_script.specs.Scripts.{schedule_read}
use Rattle.lid_top_script.specs.Causes.{Declines}
use Rattle.lid_top_script.proofs.Schedules.{schedule_is_good, schedule_declines, schedule_below}
use Rattle.lid_top_script.proofs.scheduling.ScheduleTextFileText.read.Goals as goal

pub returns-in-Ok-clause-ok : goal.returns-in-Ok-clause-ok
returns-in-Ok-clause-ok c = schedule_is_good c.args.self.now.actors c.args.bytes.now c.in-Ok.schedule c.in-Ok.ensures.ok

pub returns-in-Ok-clause-sound : goal.returns-in-Ok-clause-sound
returns-in-Ok-clause-sound c = schedule_below c.args.self.now.actors c.args.bytes.now c.in-Ok.schedule c.in-Ok.ensures.ok

pub returns-in-Err-clause-err : goal.returns-in-Err-clause-err
returns-in-Err-clause-err c =
    subst (λ s. Declines (schedule_read c.args.self.now.actors c.args.bytes.now) s) (sym c.schedule_stop.ensures) (schedule_declines c.args.self.now.actors c.args.bytes.now c.in-Err.fault c.in-Err.ensures.err)
