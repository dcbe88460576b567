use Rattle.std.proofs.Common.{◌≡◌, map}
use Rattle.std.specs.List.{range_with_len}
use Rattle.lid_check_elab.specs.Elaborations.{driver_reads}
use Rattle.lid_check_parts.specs.Inner.{inner_driver}
use Rattle.lid_check_parts.proofs.inner.find_reads.Given as goal

abbrev pub invariant-loop-k : goal.invariant-loop-k
invariant-loop-k l = l.all ≡ map driver_reads (map (inner_driver l.drivers l.part) (range_with_len 0 l.k))
