-- How a run that was built is laid flat.
use Rattle.std.specs.Prelude.{◌≡◌, ℕ, ◌+◌, ◌*◌, ◌<◌, ◌≤◌, List, [], ◌∷◌, ◌++◌, length, get_or, Some, slice_get}
use Rattle.lid_clock.specs.declared.actor.ClockActor.{ClockActor}
use Rattle.lid_clock.specs.declared.station.ClockStation.{ClockStation}
use Rattle.lid_clock_flat.specs.declared.station.FlatStation.{FlatStation}
use Rattle.lid_clock_flat.specs.declared.stations.FlatStations.{FlatStations}
use Rattle.lid_clock_flat.specs.declared.mover.FlatMover.{FlatMover}
use Rattle.lid_clock_flat.specs.Rings.{RingsAreApart}

-- no token was taken yet
abbrev pub AreEmptied : List ClockStation → Type 0
AreEmptied stations = (s : ℕ) (c : ClockStation) → slice_get stations s ≡ Some c → c.taken ≡ 0

-- a station laid flat, with its places from a base on
pub record IsFlattened (start : ℕ) (c : ClockStation) (y : FlatStation) : Type 0 where
  pub filler : y.filler ≡ c.filler
  pub drainer : y.drainer ≡ c.drainer
  pub base : y.base ≡ start
  pub cap : y.cap ≡ length c.places
  pub head : y.head ≡ 0
  pub held : y.held ≡ c.put

-- one more station was laid
pub record IsLaidLast (c : ClockStation) (old new : FlatStations) : Type 0 where
  pub station : FlatStation
  pub is : IsFlattened (length old.places.items) c station
  pub all : new.all.items ≡ old.all.items ++ station ∷ []
  pub places : new.places.items ≡ old.places.items ++ c.places

-- a station that was laid, of which the places are those of the ring
pub record StandsFlat (places : List ℕ) (c : ClockStation) (y : FlatStation) : Type 0 where
  pub is : IsFlattened y.base c y
  pub tokens : (i : ℕ) → i < length c.places → get_or places (y.base + i) 0 ≡ get_or c.places i 0

-- the first n stations were laid
pub record AreFlattened (stations : List ClockStation) (n : ℕ) (x : FlatStations) : Type 0 where
  pub many : length x.all.items ≡ n
  pub apart : RingsAreApart x.all.items x.places.items
  pub long : length x.places.items ≤ 16 * n
  pub each : (s : ℕ) (y : FlatStation) → slice_get x.all.items s ≡ Some y → (c : ClockStation) × (slice_get stations s ≡ Some c) × StandsFlat x.places.items c y

-- actors from a number on drain stations
pub record DrainSome (first : ℕ) (actors : List ClockActor) : Type 0 where
  pub there : first ≤ length actors
  pub some : (v : ℕ) (a : ClockActor) → first ≤ v → slice_get actors v ≡ Some a → 0 < length a.ins.items

-- movers that have not fired, for the actors from a number on, before another
pub record AreMoversOf (first n : ℕ) (actors : List ClockActor) (movers : List FlatMover) : Type 0 where
  pub many : first + length movers ≡ n
  pub each : (j : ℕ) (m : FlatMover) → slice_get movers j ≡ Some m → (a : ClockActor) × (slice_get actors (first + j) ≡ Some a) × (m.station ≡ get_or a.ins.items 0 0) × (m.fired ≡ 0)
