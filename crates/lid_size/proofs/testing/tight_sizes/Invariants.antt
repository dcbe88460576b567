use Rattle.std.proofs.Common.{◌≡◌, length}
use Rattle.lid_size.specs.Testing.{widened, AreWays, AreTight}
use Rattle.lid_size.proofs.testing.tight_sizes.Given as goal

abbrev pub invariant-loop : goal.invariant-loop
invariant-loop l = record {
  long : length l.done.items ≡ l.counter;
  tight : AreTight l.graph l.count l.wants l.done.items;
  ways : AreWays l.graph l.count (widened l.count l.done.items) l.ways;
}
