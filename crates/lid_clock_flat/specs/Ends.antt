-- Stations settle at the ends of the actors that fired, and who stands at their other ends wakes.
use Rattle.std.specs.Prelude.{◌≡◌, ◌≢◌, ℕ, ◌<◌, ◌≤◌, nat_lt, Bool, true, false, not, if◌then◌else◌, List, length, get_or, set, Some, slice_get}
use Rattle.lid_clock.specs.Lives.{Life}
use Rattle.lid_clock.specs.States.{actors_of}
use Rattle.lid_clock_flat.specs.declared.station.FlatStation.{FlatStation}
use Rattle.lid_clock_flat.specs.declared.run.FlatRun.{FlatRun}
use Rattle.lid_clock_flat.specs.Rings.{StationSettles}
use Rattle.lid_clock_flat.specs.Reads.{IsReadAt}
use Rattle.lid_clock_flat.specs.Wakings.{DecidedTo, KeepsRows}

-- who stands at the other end of a station that loses a token there, or else gains one
abbrev pub other_end : Bool → FlatStation → ℕ
other_end loses x = if loses then x.filler else x.drainer

-- a station can settle at one end: it has a token to lose, or else room to gain one
abbrev pub CanSettleEnd : Bool → FlatStation → Type 0
CanSettleEnd loses x = (loses ≡ true → 0 < x.held) × (loses ≡ false → x.held < x.cap)

-- the ends of all stations are among so many actors
abbrev pub AreEndsAmong : ℕ → List FlatStation → Type 0
AreEndsAmong actors stations = (s : ℕ) (x : FlatStation) → slice_get stations s ≡ Some x → (x.filler < actors) × (x.drainer < actors)

-- a station has settled at one end, and who stands at the other is awake
pub record EndSettles (station : ℕ) (loses : Bool) (old new : List FlatStation) (was is : List Bool) : Type 0 where
  pub before : FlatStation
  pub there : slice_get old station ≡ Some before
  pub after : FlatStation
  pub settled : StationSettles before (not loses) loses after
  pub stations : new ≡ set old station after
  pub awake : is ≡ set was (other_end loses before) true

-- the first i of these stations have, and no other
pub record EndsSettle (reads : List ℕ) (loses : Bool) (i : ℕ) (old new : List FlatStation) (was is : List Bool) : Type 0 where
  pub many : length new ≡ length old
  pub long : length is ≡ length was
  pub each : (j : ℕ) → j < i → (x y : FlatStation) → IsReadAt reads old j x → IsReadAt reads new j y → StationSettles x (not loses) loses y
  pub kept : (s : ℕ) → ((j : ℕ) → j < i → get_or reads j 0 ≢ s) → slice_get new s ≡ slice_get old s
  pub ends : (s : ℕ) (x y : FlatStation) → slice_get old s ≡ Some x → slice_get new s ≡ Some y → (y.filler ≡ x.filler) × (y.drainer ≡ x.drainer)
  pub woken : (j : ℕ) → j < i → (x : FlatStation) → IsReadAt reads old j x → get_or is (other_end loses x) false ≡ true
  pub grows : (v : ℕ) → get_or was v false ≡ true → get_or is v false ≡ true

-- whether an actor is before this one and fired
abbrev pub fired_before : List Bool → ℕ → ℕ → Bool
fired_before went n v = if nat_lt v n then get_or went v false else false

-- stations have settled at the ends of the actors before this one
pub record SettlesTo (went : List Bool) (n : ℕ) (old new : List FlatStation) : Type 0 where
  pub many : length new ≡ length old
  pub each : (s : ℕ) (x y : FlatStation) → slice_get old s ≡ Some x → slice_get new s ≡ Some y → StationSettles x (fired_before went n x.filler) (fired_before went n x.drainer) y

-- who shares a station with one of those that fired is awake
pub record WakesTo (went : List Bool) (n : ℕ) (stations : List FlatStation) (was is : List Bool) : Type 0 where
  pub long : length is ≡ length was
  pub fillers : (s : ℕ) (x : FlatStation) → slice_get stations s ≡ Some x → fired_before went n x.drainer ≡ true → get_or is x.filler false ≡ true
  pub drainers : (s : ℕ) (x : FlatStation) → slice_get stations s ≡ Some x → fired_before went n x.filler ≡ true → get_or is x.drainer false ≡ true
  pub grows : (v : ℕ) → get_or was v false ≡ true → get_or is v false ≡ true

-- what is the same before and after stations settle
pub record KeepsActors (old new : FlatRun) : Type 0 where
  pub nodes : new.nodes ≡ old.nodes
  pub movers : new.movers ≡ old.movers
  pub places : new.stations.places ≡ old.stations.places
  pub rest : KeepsRows old new

-- a run whose actors have all decided, after those before this one have settled their stations
pub record SettledTo (n : ℕ) (old new : FlatRun) : Type 0 where
  pub keeps : KeepsActors old new
  pub settles : SettlesTo old.went.items n old.stations.all.items new.stations.all.items
  pub wakes : WakesTo old.went.items n old.stations.all.items old.awake.items new.awake.items
  pub many : length new.went.items ≡ length old.went.items
  pub unset : (v : ℕ) (w : Bool) → v < n → slice_get new.went.items v ≡ Some w → w ≡ false
  pub left : (v : ℕ) → n ≤ v → slice_get new.went.items v ≡ slice_get old.went.items v

-- all actors of a run have decided in a cycle of some life
abbrev pub HaveAllDecided : FlatRun → Type 0
HaveAllDecided x = (l : Life) × (k : ℕ) × (g : ℕ) × DecidedTo l k g (actors_of l) x

-- an actor of it fired
abbrev pub HasFired : ℕ → FlatRun → Type 0
HasFired v x = slice_get x.went.items v ≡ Some true
