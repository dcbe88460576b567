use Rattle.std.proofs.Common.{◌≡◌, ◌+◌, drop, length}
use Rattle.lid_check_drivers.specs.Locals.{inputs_from}
use Rattle.lid_check_elab.specs.Parts.{data_of}
use Rattle.lid_check_elab.proofs.Driving.{Left}
use Rattle.lid_check_elab.proofs.driven.push_data.Given as goal

abbrev pub invariant-loop-i : goal.invariant-loop-i
invariant-loop-i l =
    Left l.judged l.model l.into (inputs_from l.count (data_of l.judged l.model (drop l.i l.names))) l.fn.into (inputs_from 0 (data_of l.judged l.model l.names))
    × (l.count + length (data_of l.judged l.model (drop l.i l.names)) ≡ length (data_of l.judged l.model l.names))
