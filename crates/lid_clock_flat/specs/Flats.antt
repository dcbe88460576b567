-- What stands in a flat run after so many cycles and given rows of a life.
use Rattle.std.specs.Prelude.{◌≡◌, ◌≢◌, ℕ, suc, ◌+◌, ◌<◌, ◌≤◌, Bool, true, false, List, [], ◌∷◌, length, Some, slice_get}
use Rattle.lid_stations.specs.Placements.{links_of}
use Rattle.lid_stations.specs.Stations.{filler, drainer, capacity}
use Rattle.lid_shell_laws.specs.Rules.{MayNotFire}
use Rattle.lid_clock.specs.declared.actor.ClockActor.{ClockActor}
use Rattle.lid_clock.specs.Lives.{Life, IsLife, fired_after}
use Rattle.lid_clock.specs.States.{ins_of, outs_of, token_of_life, put_after, taken_after, actors_of, stations_of, IsActor, Decided, MayBegin}
use Rattle.lid_clock_flat.specs.declared.station.FlatStation.{FlatStation}
use Rattle.lid_clock_flat.specs.declared.stations.FlatStations.{FlatStations}
use Rattle.lid_clock_flat.specs.declared.mover.FlatMover.{FlatMover}
use Rattle.lid_clock_flat.specs.Rings.{token_on, RingsAreApart}

-- a station as cycle k begins
pub record IsFlatAt (l : Life) (k station : ℕ) (places : List ℕ) (x : FlatStation) : Type 0 where
  pub filled : x.filler ≡ filler (links_of l.setup.system) l.setup.placement station
  pub drained : x.drainer ≡ drainer (links_of l.setup.system) l.setup.placement station
  pub size : x.cap ≡ capacity l.setup.placement station
  pub holds : put_after l k station ≡ taken_after l k station + x.held
  pub tokens : (i : ℕ) → i < x.held → token_on places x i ≡ token_of_life l station (taken_after l k station + i)

-- all stations
pub record AreFlat (l : Life) (k : ℕ) (all : List FlatStation) (places : List ℕ) : Type 0 where
  pub many : length all ≡ stations_of l
  pub apart : RingsAreApart all places
  pub each : (s : ℕ) (x : FlatStation) → slice_get all s ≡ Some x → IsFlatAt l k s places x

-- a mover: it drains a station, and fills the next one
pub record IsMover (l : Life) (k v : ℕ) (m : FlatMover) : Type 0 where
  pub past : length l.setup.system.nodes ≤ v
  pub there : v < actors_of l
  pub drains : ins_of l v ≡ m.station ∷ []
  pub fills : outs_of l v ≡ (m.station + 1) ∷ []
  pub fired_is : m.fired ≡ fired_after l k v

-- all movers, which come after the nodes
pub record AreMovers (l : Life) (k : ℕ) (movers : List FlatMover) : Type 0 where
  pub many : length l.setup.system.nodes + length movers ≡ actors_of l
  pub each : (j : ℕ) (m : FlatMover) → slice_get movers j ≡ Some m → IsMover l k (length l.setup.system.nodes + j) m

-- all nodes
pub record AreNodesAt (l : Life) (k g : ℕ) (nodes : List ClockActor) : Type 0 where
  pub many : length nodes ≡ length l.setup.system.nodes
  pub each : (v : ℕ) (a : ClockActor) → slice_get nodes v ≡ Some a → IsActor l g v (fired_after l k v) a

-- an actor may not fire in cycle k
abbrev pub IsBarred : Life → ℕ → ℕ → Type 0
IsBarred l k v = MayNotFire (links_of l.setup.system) l.setup.placement (length l.setup.input) (fired_after l k) v

-- whether an actor fired in cycle k
pub record Chose (l : Life) (k v : ℕ) (went : Bool) : Type 0 where
  pub goes : went ≡ true → fired_after l (suc k) v ≡ fired_after l k v + 1
  pub rests : went ≡ false → fired_after l (suc k) v ≡ fired_after l k v

-- the tokens that an actor puts in cycle k stand in the free places of the stations that it fills
abbrev pub Offers : Life → ℕ → ℕ → FlatStations → Type 0
Offers l k v x = (s : ℕ) (y : FlatStation) → slice_get x.all.items s ≡ Some y → y.filler ≡ v → token_on x.places.items y y.held ≡ token_of_life l s (put_after l k s)

-- nothing was written but the free places of stations that an actor fills
pub record WritesAlone (v : ℕ) (old new : FlatStations) : Type 0 where
  pub all : new.all ≡ old.all
  pub many : length new.places.items ≡ length old.places.items
  pub kept : (s n : ℕ) (y : FlatStation) → slice_get old.all.items s ≡ Some y → n < y.held → token_on new.places.items y n ≡ token_on old.places.items y n
  pub free : (s : ℕ) (y : FlatStation) → slice_get old.all.items s ≡ Some y → y.filler ≢ v → token_on new.places.items y y.held ≡ token_on old.places.items y y.held

-- the actors before this one have decided in cycle k
pub record HaveDecided (l : Life) (k n : ℕ) (x : FlatStations) (went : List Bool) : Type 0 where
  pub many : length went ≡ actors_of l
  pub flat : AreFlat l k x.all.items x.places.items
  pub chose : (v : ℕ) (w : Bool) → v < n → slice_get went v ≡ Some w → Chose l k v w
  pub offers : (v : ℕ) → v < n → slice_get went v ≡ Some true → Offers l k v x

-- an actor that has decided, and what it has put
pub record StationsStep (l : Life) (k v : ℕ) (went : Bool) (old new : FlatStations) : Type 0 where
  pub chose : Chose l k v went
  pub alone : WritesAlone v old new
  pub offers : went ≡ true → Offers l k v new

-- a node as cycle k begins, in which it is held or not, beside the stations
pub record NodeBegins (l : Life) (k g v : ℕ) (held : Bool) (a : ClockActor) (x : FlatStations) : Type 0 where
  pub begins : MayBegin l k g
  pub actor : IsActor l g v (fired_after l k v) a
  pub beside : AreFlat l k x.all.items x.places.items
  pub holds : l.hold k v ≡ held

-- and after its decision
pub record NodeDecided (l : Life) (k g v : ℕ) (held went : Bool) (a : ClockActor) (old new : FlatStations) : Type 0 where
  pub decided : Decided l k g v a
  pub is : a.went ≡ went
  pub steps : StationsStep l k v went old new
  pub bars : went ≡ false → held ≡ false → IsBarred l k v

-- a mover as cycle k begins, in which it is not held
pub record MoverBegins (l : Life) (k v : ℕ) (m : FlatMover) (x : FlatStations) : Type 0 where
  pub rules : IsLife l
  pub mover : IsMover l k v m
  pub beside : AreFlat l k x.all.items x.places.items
  pub free : l.hold k v ≡ false

-- and after its decision
pub record MoverDecided (l : Life) (k v : ℕ) (went : Bool) (m : FlatMover) (old new : FlatStations) : Type 0 where
  pub mover : IsMover l (suc k) v m
  pub steps : StationsStep l k v went old new
  pub bars : went ≡ false → IsBarred l k v
