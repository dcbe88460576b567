use Rattle.std.proofs.Common.{◌≡◌, ◌++◌, [], ℕ}
use Rattle.lid_base.specs.Each.{from_each}
use Rattle.lid_clock.specs.Lives.{Life, fired_after}
use Rattle.lid_top_clock.specs.Courses.{RanBy}
use Rattle.lid_top_clock.proofs.steps.firings.Given as goal

abbrev pub invariant-loop-node : goal.invariant-loop-node
invariant-loop-node l = (life : Life) (k g : ℕ) → RanBy life k g l.stream → l.fired.items ≡ [] ++ from_each (fired_after life k) 0 l.node
