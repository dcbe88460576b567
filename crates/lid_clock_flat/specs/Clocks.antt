-- Flat runs that stalls hold.
use Rattle.std.specs.Prelude.{◌≡◌, ℕ, ◌<◌, ◌≤◌}
use Rattle.lid_clock.specs.Lives.{Life, IsBelow}
use Rattle.lid_stall_text.specs.Holds.{Ascend}
use Rattle.lid_stall.specs.Places.{Divides}
use Rattle.lid_stall.specs.Runs.{IsHeldBy, stalled_after}
use Rattle.lid_clock_flat.specs.declared.clock.FlatClock.{FlatClock}
use Rattle.lid_clock_flat.specs.Runs.{FlatRan}

-- a run that stalls hold, after k cycles and g given rows of a life; each of the cycles was needed
pub record RanFlat (l : Life) (k g : ℕ) (x : FlatClock) : Type 0 where
  pub ran : FlatRan l k g x.run
  pub by : IsHeldBy l x.stalls
  pub ascend : Ascend x.stalls
  pub at : Divides x.stalls x.next k
  pub made_is : x.made ≡ k
  pub stalled_is : x.stalled ≡ stalled_after l k
  pub few : x.stalled ≤ x.next
  pub needed : (j : ℕ) → j < k → IsBelow l j
