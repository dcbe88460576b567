-- What a mover sees of its stations, and how it moves a token on.
use Rattle.std.specs.Prelude.{◌≡◌, ◌+◌, ◌<◌, ◌⊎◌, List, length, set, Some, slice_get}
use Rattle.lid_clock_flat.specs.declared.station.FlatStation.{FlatStation}
use Rattle.lid_clock_flat.specs.declared.stations.FlatStations.{FlatStations}
use Rattle.lid_clock_flat.specs.declared.mover.FlatMover.{FlatMover}
use Rattle.lid_clock_flat.specs.Rings.{place_at, token_on}

-- the station that it drains and the next one exist
abbrev pub AreBeside : FlatMover → List FlatStation → Type 0
AreBeside m all = m.station + 1 < length all

-- the one holds a token, and the other has room
pub record SeesNoBar (m : FlatMover) (all : List FlatStation) : Type 0 where
  pub some : (x : FlatStation) → slice_get all m.station ≡ Some x → 0 < x.held
  pub room : (y : FlatStation) → slice_get all (m.station + 1) ≡ Some y → y.held < y.cap

-- or not
abbrev pub SeesBar : FlatMover → List FlatStation → Type 0
SeesBar m all =
    ((x : FlatStation) → slice_get all m.station ≡ Some x → x.held ≡ 0)
    ⊎ ((y : FlatStation) → slice_get all (m.station + 1) ≡ Some y → y.held ≡ y.cap)

-- the oldest token of the one stands in the free place of the other
pub record HasMoved (old : FlatMover) (was : FlatStations) (new : FlatMover) (is : FlatStations) : Type 0 where
  pub station : new.station ≡ old.station
  pub fired : new.fired ≡ old.fired + 1
  pub all : is.all ≡ was.all
  pub places : (x y : FlatStation) → slice_get was.all.items old.station ≡ Some x → slice_get was.all.items (old.station + 1) ≡ Some y
      → is.places.items ≡ set was.places.items (place_at y y.held) (token_on was.places.items x 0)
