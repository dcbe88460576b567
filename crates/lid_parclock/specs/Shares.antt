-- The shares of workers, and what is done to the actors of one.
use Rattle.std.specs.Prelude.{◌≡◌, ℕ, ◌*◌, ◌<◌, ◌≤◌, false, List, Some, slice_get}
use Rattle.lid_clock.specs.declared.actor.ClockActor.{ClockActor}
use Rattle.lid_clock.specs.declared.station.ClockStation.{ClockStation}
use Rattle.lid_clock.specs.States.{CanDecide, Decides}
use Rattle.lid_clock.specs.Cycles.{EachChanges}

-- the length of the shares of so many things for so many workers: the least with which there is no more than
-- one for each
pub record IsShareLength (count workers size : ℕ) : Type 0 where
  pub some : 0 < size
  pub enough : count ≤ size * workers
  pub least : (n : ℕ) → 0 < n → count ≤ n * workers → size ≤ n

-- each of these actors can decide
abbrev pub EachCanDecide : List ClockActor → List ClockStation → Type 0
EachCanDecide actors stations = (v : ℕ) (a : ClockActor) → slice_get actors v ≡ Some a → CanDecide a stations

-- each has decided, and none was held
abbrev pub EachDecides : List ClockActor → List ClockStation → List ClockActor → Type 0
EachDecides old stations new = EachChanges (λ a b. Decides a stations false b) old new
