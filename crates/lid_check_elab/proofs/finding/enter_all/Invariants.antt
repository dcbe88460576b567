use Rattle.std.proofs.Common.{reverse}
use Rattle.lid_check_elab.specs.Numbers.{weight_of, IsColumnSpot}
use Rattle.lid_check_elab.proofs.finding.enter_all.Given as goal

abbrev pub invariant-loop-spot : goal.invariant-loop-spot
invariant-loop-spot l = IsColumnSpot l.judged (reverse l.path.items) l.spot.model l.spot.number l.number

abbrev pub decreases-loop-spot : goal.decreases-loop-spot
decreases-loop-spot l = weight_of l.judged l.spot.model
