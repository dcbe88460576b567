use Rattle.std.proofs.Common.{subst}
use Rattle.lid_top_clock.specs.Courses.{RanBy}
use Rattle.lid_top_clock.proofs.course.Course.give.Goals as goal

pub returns-in-Worked : goal.returns-in-Worked
returns-in-Worked c l k g by next =
    let ran = subst (RanBy l k g) c.in-Worked.is by in
    (c.give.ensures l k g ran.0 next, ran.1)
