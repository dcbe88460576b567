use Rattle.std.proofs.Common.{subst}
use Rattle.lid_top_clock.specs.Courses.{RanBy}
use Rattle.lid_top_clock.proofs.course.Course.last.Goals as goal

pub returns-in-Worked : goal.returns-in-Worked
returns-in-Worked c l k g by = c.last.ensures l k g (subst (RanBy l k g) c.in-Worked.is by).0

pub returns-in-Flat : goal.returns-in-Flat
returns-in-Flat c l k g by = c.last-in-Flat.ensures l k g (subst (RanBy l k g) c.in-Flat.is by)
