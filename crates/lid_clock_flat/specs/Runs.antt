-- Flat runs of a life.
use Rattle.std.specs.Prelude.{◌≡◌, ℕ, ◌≤◌, min, Bool, true, List, length, take, Some, slice_get}
use Rattle.lid_clock.specs.declared.actor.ClockActor.{ClockActor}
use Rattle.lid_clock.specs.declared.stream.ClockStream.{ClockStream}
use Rattle.lid_clock.specs.Ran.{Ran}
use Rattle.lid_shell_laws.specs.Setups.{IsInputRow}
use Rattle.lid_clock.specs.Lives.{Life, IsLife, NeedsRow, sink}
use Rattle.lid_clock.specs.States.{actors_of, IsLatest}
use Rattle.lid_clock_flat.specs.declared.run.FlatRun.{FlatRun}
use Rattle.lid_clock_flat.specs.declared.stations.FlatStations.{FlatStations}
use Rattle.lid_clock_flat.specs.Layings.{AreMoversOf}
use Rattle.lid_clock_flat.specs.Flats.{AreFlat, AreMovers, AreNodesAt}
use Rattle.lid_clock_flat.specs.Wakings.{AreUnset, AreAsleep}

-- a run after k cycles and g given rows of a life
pub record FlatRan (l : Life) (k g : ℕ) (x : FlatRun) : Type 0 where
  pub rules : IsLife l
  pub rows_are : x.rows ≡ length l.setup.input
  pub given_is : x.given ≡ g
  pub few : g ≤ length l.setup.input
  pub all_nodes : AreNodesAt l k g x.nodes.items
  pub all_movers : AreMovers l k x.movers.items
  pub all_stations : AreFlat l k x.stations.all.items x.stations.places.items
  pub flags : length x.went.items ≡ actors_of l
  pub unset : AreUnset 0 x.went.items
  pub asleep : AreAsleep l k x.nodes.items x.awake.items
  pub latest : (a : ClockActor) → slice_get x.nodes.items (sink l) ≡ Some a → IsLatest l k a

-- a run that can be given a row: it is one of a life in which a row of this width is wanting
abbrev pub CanGive : FlatRun → List Bool → Type 0
CanGive x row = (l : Life) × (k : ℕ) × (g : ℕ) × FlatRan l k g x × NeedsRow l k g × IsInputRow l.setup.system row

-- a run that can make a cycle: it is one of a life in which no row is wanting
abbrev pub CanCycle : FlatRun → Type 0
CanCycle x = (l : Life) × (k : ℕ) × (g : ℕ) × FlatRan l k g x × ¬ (NeedsRow l k g)

-- a run of some life that was built, and has made no cycle; it has so many nodes
abbrev pub IsJustStarted : ClockStream → ℕ → Type 0
IsJustStarted x count = (l : Life) × (g : ℕ) × Ran l 0 g x × (count ≡ length l.setup.system.nodes)

-- a run of these actors, of which so many are nodes, and of these stations
pub record IsFlatRunOf (actors : List ClockActor) (stations : FlatStations) (count rows : ℕ) (x : FlatRun) : Type 0 where
  pub nodes : x.nodes.items ≡ take count actors
  pub movers : AreMoversOf count (length actors) actors x.movers.items
  pub stations_are : x.stations ≡ stations
  pub flags : length x.went.items ≡ length actors
  pub unset : AreUnset 0 x.went.items
  pub awake_many : length x.awake.items ≡ length actors
  pub awake_all : (v : ℕ) (w : Bool) → slice_get x.awake.items v ≡ Some w → w ≡ true
  pub rows_are : x.rows ≡ rows
  pub given_is : x.given ≡ min 1 rows
