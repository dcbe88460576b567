-- Models that are reached from the root.
use Rattle.std.proofs.Common.{[], refl}
use Rattle.lid_design.specs.declared.Design.{Design}
use Rattle.lid_design.specs.Models.{number_from, IsReached}

pub root_reached : (d : Design) → IsReached d d.root
unfolding number_from
root_reached d = ([], refl)
