use Rattle.std.proofs.Common.{◌≡◌, take, map}
use Rattle.lid_check_elab.specs.Elaborations.{driver_reads}
use Rattle.lid_check_elab.proofs.reads.find_reads.Given as goal

abbrev pub invariant-loop-driver : goal.invariant-loop-driver
invariant-loop-driver l = l.all ≡ map driver_reads (take l.driver-index l.drivers)
