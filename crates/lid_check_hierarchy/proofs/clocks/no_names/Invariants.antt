use Rattle.std.proofs.Common.{◌≡◌, length}
use Rattle.lid_check_hierarchy.proofs.clocks.no_names.Given as goal

abbrev pub invariant-loop : goal.invariant-loop
invariant-loop l = length l.sets.items ≡ l.counter
