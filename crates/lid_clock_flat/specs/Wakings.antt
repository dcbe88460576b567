-- Actors that are awake are looked at in a cycle. Those that sleep may not fire in it.
use Rattle.std.specs.Prelude.{◌≡◌, ℕ, suc, ◌+◌, ◌<◌, ◌≤◌, Bool, true, false, List, length, Some, slice_get}
use Rattle.lid_clock.specs.declared.actor.ClockActor.{ClockActor}
use Rattle.lid_clock.specs.Lives.{Life, fired_after}
use Rattle.lid_clock.specs.States.{actors_of, MayBegin, IsActor, Decided}
use Rattle.lid_clock_flat.specs.declared.mover.FlatMover.{FlatMover}
use Rattle.lid_clock_flat.specs.declared.run.FlatRun.{FlatRun}
use Rattle.lid_clock_flat.specs.Flats.{IsMover, IsBarred, HaveDecided}

-- the first place from this one on whose flag is set, or how many flags there are
pub record IsNextSet (flags : List Bool) (start place : ℕ) : Type 0 where
  pub past : start ≤ place
  pub within : place ≤ length flags
  pub between : (v : ℕ) → start ≤ v → v < place → slice_get flags v ≡ Some false
  pub set : place < length flags → slice_get flags place ≡ Some true

-- no flag is set from this place on
abbrev pub AreUnset : ℕ → List Bool → Type 0
AreUnset start flags = (v : ℕ) (w : Bool) → start ≤ v → slice_get flags v ≡ Some w → w ≡ false

-- who sleeps in cycle k is barred, and did not fire when it was looked at last
pub record AreAsleep (l : Life) (k : ℕ) (nodes : List ClockActor) (awake : List Bool) : Type 0 where
  pub many : length awake ≡ actors_of l
  pub barred : (v : ℕ) → slice_get awake v ≡ Some false → IsBarred l k v
  pub rested : (v : ℕ) (a : ClockActor) → slice_get awake v ≡ Some false → slice_get nodes v ≡ Some a → a.went ≡ false

-- a run in cycle k, after the actors before this one have decided
pub record DecidedTo (l : Life) (k g n : ℕ) (x : FlatRun) : Type 0 where
  pub begins : MayBegin l k g
  pub nodes : length x.nodes.items ≡ length l.setup.system.nodes
  pub nodes_done : (v : ℕ) (a : ClockActor) → v < n → slice_get x.nodes.items v ≡ Some a → Decided l k g v a
  pub nodes_left : (v : ℕ) (a : ClockActor) → n ≤ v → slice_get x.nodes.items v ≡ Some a → IsActor l g v (fired_after l k v) a
  pub movers : length l.setup.system.nodes + length x.movers.items ≡ actors_of l
  pub movers_done : (j : ℕ) (m : FlatMover) → length l.setup.system.nodes + j < n → slice_get x.movers.items j ≡ Some m → IsMover l (suc k) (length l.setup.system.nodes + j) m
  pub movers_left : (j : ℕ) (m : FlatMover) → n ≤ length l.setup.system.nodes + j → slice_get x.movers.items j ≡ Some m → IsMover l k (length l.setup.system.nodes + j) m
  pub done : HaveDecided l k n x.stations x.went.items
  pub unset : AreUnset n x.went.items
  pub asleep : AreAsleep l k x.nodes.items x.awake.items

-- what no half of a cycle changes
pub record KeepsRows (old new : FlatRun) : Type 0 where
  pub rows : new.rows ≡ old.rows
  pub given : new.given ≡ old.given
