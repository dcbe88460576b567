use Rattle.std.proofs.Common.{drop}
use Rattle.std.specs.List.{flat_map}
use Rattle.lid_check_drivers.specs.Locals.{output_driver}
use Rattle.lid_check_elab.proofs.Driving.{Left}
use Rattle.lid_check_elab.proofs.driven.push_binds.Given as goal

abbrev pub invariant-loop-i : goal.invariant-loop-i
invariant-loop-i l =
    Left l.judged l.at.model l.into (flat_map (output_driver l.formals l.at.number) (drop l.i l.binds)) l.fn.into (flat_map (output_driver l.formals l.at.number) l.binds)
