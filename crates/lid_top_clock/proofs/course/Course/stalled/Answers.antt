use Rattle.std.proofs.Common.{subst}
use Rattle.lid_top_clock.specs.Courses.{RanBy}
use Rattle.lid_clock_flat.proofs.Unheld.{free_stalled}
use Rattle.lid_top_clock.proofs.course.Course.stalled.Goals as goal

pub returns-in-Worked : goal.returns-in-Worked
returns-in-Worked c l k g by = let ran = subst (RanBy l k g) c.in-Worked.is by in free_stalled l ran.0.rules ran.1 k
