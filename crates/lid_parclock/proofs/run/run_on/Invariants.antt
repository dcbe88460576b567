use Rattle.std.proofs.Common.{ℕ, ◌-◌, ◌^◌}
use Rattle.lid_clock.specs.Lives.{Life}
use Rattle.lid_clock.specs.Clocks.{Clocks}
use Rattle.lid_parclock.proofs.run.run_on.Given as goal

-- each life of the run at the start is one of the run now, after as many cycles as were made
abbrev pub invariant-loop : goal.invariant-loop
invariant-loop g l = (life : Life) (k : ℕ) → Clocks life k l.initial.clocked → Clocks life l.clocked.made l.clocked

abbrev pub decreases-loop : goal.decreases-loop
decreases-loop g l = 2 ^ 64 - l.clocked.made
