use Rattle.std.proofs.Common.{subst}
use Rattle.lid_top_clock.specs.Courses.{RanBy}
use Rattle.lid_clock_flat.proofs.Unheld.{free_few}
use Rattle.lid_top_clock.proofs.course.Course.cycle.Goals as goal

pub returns-in-Worked-clause-ran : goal.returns-in-Worked-clause-ran
returns-in-Worked-clause-ran b c l k g by made =
    let ran = subst (RanBy l k g) c.in-Worked.is by in
    (c.cycle_on.ensures.ran l k g ran.0 (ran.1 k) made, ran.1)

pub returns-in-Worked-clause-counts : goal.returns-in-Worked-clause-counts
returns-in-Worked-clause-counts b c l k g by made =
    let ran = subst (RanBy l k g) c.in-Worked.is by in
    free_few l ran.0.rules ran.1 k ((c.cycle_on.ensures.made l k g ran.0).0 made)

pub returns-in-Flat-clause-ran : goal.returns-in-Flat-clause-ran
returns-in-Flat-clause-ran b c l k g by made = c.cycle.ensures.ran l k g (subst (RanBy l k g) c.in-Flat.is by) made
