-- Actors, whatever run they belong to: whether one may fire, and what it does.
use Rattle.std.specs.Prelude.{◌≡◌, ◌+◌, ◌<◌, ◌≤◌, ◌⊎◌, true, false, List, length}
use Rattle.lid_clock.specs.declared.actor.ClockActor.{ClockActor}
use Rattle.lid_clock.specs.declared.station.ClockStation.{ClockStation}
use Rattle.lid_clock.specs.Rings.{AreThere, AllHold, OneIsEmpty, AllHaveRoom, OneIsFull, AreOldest}
use Rattle.lid_clock.specs.Parts.{IsOfSize, Passes}

-- the stations of an actor exist
pub record SeesStations (a : ClockActor) (stations : List ClockStation) : Type 0 where
  pub ins : AreThere a.ins.items stations
  pub outs : AreThere a.outs.items stations

-- an actor has room for the tokens of a firing
pub record HasPlaces (a : ClockActor) : Type 0 where
  pub taken : length a.taken.items ≡ length a.ins.items
  pub tokens : length a.tokens.items ≡ length a.outs.items
  pub size : IsOfSize a.part (length a.taken.items) (length a.tokens.items)

-- an actor is below its cap, its stations hold tokens, and those that it fills have room
pub record SeesNoBar (a : ClockActor) (stations : List ClockStation) : Type 0 where
  pub below : a.fired < a.cap
  pub hold : AllHold a.ins.items stations
  pub room : AllHaveRoom a.outs.items stations

-- something bars an actor from firing
abbrev pub SeesBar : ClockActor → List ClockStation → Type 0
SeesBar a stations = (a.cap ≤ a.fired) ⊎ (OneIsEmpty a.ins.items stations ⊎ OneIsFull a.outs.items stations)

-- an actor stays what it is
pub record IsSameActor (old new : ClockActor) : Type 0 where
  pub ins : new.ins.items ≡ old.ins.items
  pub outs : new.outs.items ≡ old.outs.items
  pub cap : new.cap ≡ old.cap

-- an actor fires
pub record Fires (old : ClockActor) (stations : List ClockStation) (new : ClockActor) : Type 0 where
  pub same : IsSameActor old new
  pub fired : new.fired ≡ old.fired + 1
  pub went : new.went ≡ true
  pub taken : AreOldest old.ins.items stations new.taken.items
  pub places : HasPlaces new
  pub passes : Passes old.part new.taken.items new.tokens.items new.part

-- an actor does not fire
abbrev pub Rests : ClockActor → ClockActor → Type 0
Rests old new = new ≡ record old { went = false }
