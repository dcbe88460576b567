-- All actors of a setup.
use Rattle.std.specs.Prelude.{◌≡◌, ℕ, List, length, Some, slice_get}
use Rattle.lid_walk_machine.specs.Plans.{actors_of}
use Rattle.lid_walk_machine.specs.Setups.{plan}
use Rattle.lid_shell_laws.specs.Setups.{Setup}
use Rattle.lid_walk_machine.specs.Machine.{State}
use Rattle.lid_shell.specs.declared.actor.Actor.{Actor}
use Rattle.lid_shell.specs.Actors.{IsActor}

-- these are all actors of a setup, as far as a state says
pub record AreActors (m : Setup) (st : State) (actors : List Actor) : Type 0 where
  pub many : length actors ≡ actors_of (plan m)
  pub each : (v : ℕ) (a : Actor) → slice_get actors v ≡ Some a → IsActor m v (st v) a
