-- What a node sees of its stations, and how it fires.
use Rattle.std.specs.Prelude.{◌≡◌, ℕ, ◌+◌, ◌<◌, ◌≤◌, ◌⊎◌, true, List, length, get_or}
use Rattle.lid_clock.specs.declared.actor.ClockActor.{ClockActor}
use Rattle.lid_clock.specs.Actors.{HasPlaces, IsSameActor}
use Rattle.lid_clock.specs.Parts.{Passes}
use Rattle.lid_clock_flat.specs.declared.station.FlatStation.{FlatStation}
use Rattle.lid_clock_flat.specs.declared.stations.FlatStations.{FlatStations}
use Rattle.lid_clock_flat.specs.Rings.{token_on}
use Rattle.lid_clock_flat.specs.Reads.{AreThere, IsReadAt, AllHold, OneIsEmpty, AllHaveRoom, OneIsFull, AreOffered}

-- its stations exist
pub record SeesStations (a : ClockActor) (all : List FlatStation) : Type 0 where
  pub ins : AreThere a.ins.items all
  pub outs : AreThere a.outs.items all

-- it is below its cap, the stations that it drains hold tokens, and those that it fills have room
pub record SeesNoBar (a : ClockActor) (all : List FlatStation) : Type 0 where
  pub below : a.fired < a.cap
  pub hold : AllHold a.ins.items all
  pub room : AllHaveRoom a.outs.items all

-- something bars it from firing
abbrev pub SeesBar : ClockActor → List FlatStation → Type 0
SeesBar a all = (a.cap ≤ a.fired) ⊎ (OneIsEmpty a.ins.items all ⊎ OneIsFull a.outs.items all)

-- it was handed the oldest tokens of the first i stations that it drains
pub record IsHanded (i : ℕ) (old : ClockActor) (x : FlatStations) (new : ClockActor) : Type 0 where
  pub rest : new ≡ record old { taken = new.taken }
  pub many : length new.taken.items ≡ length old.taken.items
  pub each : (j : ℕ) → j < i → (y : FlatStation) → IsReadAt old.ins.items x.all.items j y → get_or new.taken.items j 0 ≡ token_on x.places.items y 0

-- it fires on the oldest tokens, and what it puts is offered
pub record NodeFires (old : ClockActor) (was : FlatStations) (new : ClockActor) (is : FlatStations) : Type 0 where
  pub same : IsSameActor old new
  pub fired : new.fired ≡ old.fired + 1
  pub went : new.went ≡ true
  pub many : length new.taken.items ≡ length old.ins.items
  pub taken : (j : ℕ) → j < length old.ins.items → (y : FlatStation) → IsReadAt old.ins.items was.all.items j y → get_or new.taken.items j 0 ≡ token_on was.places.items y 0
  pub places : HasPlaces new
  pub passes : Passes old.part new.taken.items new.tokens.items new.part
  pub offered : AreOffered old.outs.items new.tokens.items (length old.outs.items) was is
