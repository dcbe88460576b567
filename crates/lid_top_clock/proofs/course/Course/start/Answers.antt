-- A run that stalls hold, or that nobody is held in.
use Rattle.std.proofs.Common.{List, Option, subst}
use Rattle.lid_stall_text.specs.declared.stalls.Stall.{Stall}
use Rattle.lid_stall_text.specs.Holds.{Ascend, listed}
use Rattle.lid_top_clock.proofs.course.Course.start.Goals as goal

pub flat-requires-clause-ascend : goal.flat-requires-clause-ascend
flat-requires-clause-ascend c = subst (λ (stalls : Option (List Stall)). Ascend (listed stalls)) c.in-Some.is c.requires.ascend
