use Rattle.std.proofs.Common.{ℕ, ◌-◌, ◌^◌}
use Rattle.lid_clock.specs.Lives.{Life}
use Rattle.lid_clock.specs.Clocks.{Clocks}
use Rattle.lid_clock.proofs.clocked.Clocked.run.Given as goal

-- each life of the run at the start is one of the run now, after as many cycles as were made
abbrev pub invariant-loop : goal.invariant-loop
invariant-loop l = (life : Life) (k : ℕ) → Clocks life k l.initial.self → Clocks life l.self.made l.self

abbrev pub decreases-loop : goal.decreases-loop
decreases-loop l = 2 ^ 64 - l.self.made
