-- What stands in a clocked run after so many cycles and given rows of a life.
use Rattle.std.specs.Prelude.{◌≡◌, ℕ, suc, ◌+◌, ◌-◌, ◌<◌, ◌≤◌, Bool, true, false, List, length, get_or, Some, slice_get}
use Rattle.lid_system.specs.Streams.{output_row}
use Rattle.lid_shell_nodes.specs.Wiring.{IsSourceOf, IsShellOf, IsSinkOf}
use Rattle.lid_stations.specs.Placements.{links_of, station_count}
use Rattle.lid_stations.specs.Stations.{actor_count, filler, drainer, capacity}
use Rattle.lid_shell_laws.specs.Runs.{cap_of, drained_by, filled_by, token_of, in_count, out_count}
use Rattle.lid_clock.specs.declared.part.Role.{Role}
use Rattle.lid_clock.specs.declared.part.Role.TheVariants.{Source, Shell, Mover, Sink}
use Rattle.lid_clock.specs.declared.actor.ClockActor.{ClockActor}
use Rattle.lid_clock.specs.declared.station.ClockStation.{ClockStation}
use Rattle.lid_clock.specs.Rings.{token_in}
use Rattle.lid_clock.specs.Parts.{row_of}
use Rattle.lid_clock.specs.Actors.{HasPlaces}
use Rattle.lid_clock.specs.Lives.{Life, IsLife, fired_after, sink, NeedsRow, HasSunk}

-- the stations that an actor of a life drains, and those that it fills
abbrev pub ins_of : Life → ℕ → List ℕ
ins_of l v = drained_by (links_of l.setup.system) l.setup.placement v

abbrev pub outs_of : Life → ℕ → List ℕ
outs_of l v = filled_by (links_of l.setup.system) l.setup.placement v

-- the token of a number of a station
abbrev pub token_of_life : Life → ℕ → ℕ → ℕ
token_of_life l station i = token_of l.setup.system l.setup.placement l.setup.table station i

-- how many tokens were put in a station after k cycles, and how many were taken
abbrev pub put_after : Life → ℕ → ℕ → ℕ
put_after l k station = in_count (links_of l.setup.system) l.setup.placement (length l.setup.input) (fired_after l k) station

abbrev pub taken_after : Life → ℕ → ℕ → ℕ
taken_after l k station = out_count (links_of l.setup.system) l.setup.placement (fired_after l k) station

-- the actors of a life
abbrev pub actors_of : Life → ℕ
actors_of l = actor_count (links_of l.setup.system) l.setup.placement

-- the stations of a life
abbrev pub stations_of : Life → ℕ
stations_of l = station_count l.setup.placement.relays

-- a station in which so many tokens were put, and from which so many were taken
pub record IsStation (l : Life) (station put taken : ℕ) (x : ClockStation) : Type 0 where
  pub filled : x.filler ≡ filler (links_of l.setup.system) l.setup.placement station
  pub slot : slice_get (outs_of l x.filler) x.slot ≡ Some station
  pub drained : x.drainer ≡ drainer (links_of l.setup.system) l.setup.placement station
  pub put_is : x.put ≡ put
  pub taken_is : x.taken ≡ taken
  pub size : length x.places ≡ capacity l.setup.placement station
  pub tokens : (i : ℕ) → taken ≤ i → i < put → token_in x.places i ≡ token_of_life l station i

-- all stations after k cycles
pub record AreStations (l : Life) (k : ℕ) (stations : List ClockStation) : Type 0 where
  pub many : length stations ≡ stations_of l
  pub each : (i : ℕ) (x : ClockStation) → slice_get stations i ≡ Some x → IsStation l i (put_after l k i) (taken_after l k i) x

-- the row that the source holds where it has fired so often and so many rows were given: the last one
pub record HoldsLast (l : Life) (g fired : ℕ) (row : List Bool) : Type 0 where
  pub next : fired + 1 ≤ g
  pub near : g ≤ fired + 2
  pub is : slice_get l.setup.input (g - 1) ≡ Some row

-- the part of an actor that has fired so often
abbrev pub IsRole : Life → ℕ → ℕ → ℕ → Role → Type 0
IsRole l g v fired (Source node row) = (v ≡ 0) × IsSourceOf l.setup.system node × (0 < length l.setup.input → HoldsLast l g fired row.items)
IsRole l g v fired (Shell node) = (0 < v) × (v + 1 < length l.setup.system.nodes) × IsShellOf l.setup.system l.setup.table v fired node
IsRole l g v fired Mover = length l.setup.system.nodes ≤ v
IsRole l g v fired (Sink node row) = IsSinkOf l.setup.system v node

-- an actor that has fired so often
pub record IsActor (l : Life) (g v fired : ℕ) (a : ClockActor) : Type 0 where
  pub there : v < actors_of l
  pub drains : a.ins.items ≡ ins_of l v
  pub fills : a.outs.items ≡ outs_of l v
  pub capped : a.cap ≡ cap_of (links_of l.setup.system) (length l.setup.input) v
  pub fired_is : a.fired ≡ fired
  pub places : HasPlaces a
  pub is : IsRole l g v fired a.part

-- all actors after k cycles
pub record AreActors (l : Life) (k g : ℕ) (actors : List ClockActor) : Type 0 where
  pub many : length actors ≡ actors_of l
  pub each : (v : ℕ) (a : ClockActor) → slice_get actors v ≡ Some a → IsActor l g v (fired_after l k v) a

-- an actor after its decision in cycle k
pub record Decided (l : Life) (k g v : ℕ) (a : ClockActor) : Type 0 where
  pub actor : IsActor l g v (fired_after l (suc k) v) a
  pub goes : a.went ≡ true → fired_after l (suc k) v ≡ fired_after l k v + 1
  pub rests : a.went ≡ false → fired_after l (suc k) v ≡ fired_after l k v
  pub offers : a.went ≡ true → (i station : ℕ) → slice_get (outs_of l v) i ≡ Some station → get_or a.tokens.items i 0 ≡ token_of_life l station (put_after l k station)
  pub row : a.went ≡ true → v ≡ sink l → row_of a.part ≡ Some (output_row l.setup.system l.setup.table (fired_after l k v))

-- all actors after their decisions in cycle k
pub record AreDecided (l : Life) (k g : ℕ) (actors : List ClockActor) : Type 0 where
  pub many : length actors ≡ actors_of l
  pub each : (v : ℕ) (a : ClockActor) → slice_get actors v ≡ Some a → Decided l k g v a

-- cycle k of a life may begin: no row is wanting
pub record MayBegin (l : Life) (k g : ℕ) : Type 0 where
  pub rules : IsLife l
  pub fed : ¬ (NeedsRow l k g)

-- an actor can decide: it is one of a life in which a cycle may begin, and these are the stations of that life
pub record CanDecide (a : ClockActor) (stations : List ClockStation) : Type 0 where
  pub life : Life
  pub k : ℕ
  pub g : ℕ
  pub v : ℕ
  pub begins : MayBegin life k g
  pub actor : IsActor life g v (fired_after life k v) a
  pub beside : AreStations life k stations

-- an actor has decided, held or not, in each life to which it may belong
abbrev pub Decides : ClockActor → List ClockStation → Bool → ClockActor → Type 0
Decides old stations held new =
    (l : Life) (k g v : ℕ)
    → MayBegin l k g → IsActor l g v (fired_after l k v) old → AreStations l k stations → l.hold k v ≡ held → Decided l k g v new

-- a station can settle: it is one of a life, and all actors of that life have decided
pub record CanSettle (x : ClockStation) (actors : List ClockActor) : Type 0 where
  pub life : Life
  pub k : ℕ
  pub g : ℕ
  pub station : ℕ
  pub rules : IsLife life
  pub there : station < stations_of life
  pub is : IsStation life station (put_after life k station) (taken_after life k station) x
  pub decided : AreDecided life k g actors

-- a station has gained its filler's token, where that fired, in each life to which it may belong
abbrev pub Gains : ClockStation → List ClockActor → ClockStation → Type 0
Gains old actors new =
    (l : Life) (k g station : ℕ)
    → IsLife l → station < stations_of l → IsStation l station (put_after l k station) (taken_after l k station) old → AreDecided l k g actors
    → IsStation l station (put_after l (suc k) station) (taken_after l k station) new

-- a station has settled in each life to which it may belong
abbrev pub Settles : ClockStation → List ClockActor → ClockStation → Type 0
Settles old actors new =
    (l : Life) (k g station : ℕ)
    → IsLife l → station < stations_of l → IsStation l station (put_after l k station) (taken_after l k station) old → AreDecided l k g actors
    → IsStation l station (put_after l (suc k) station) (taken_after l (suc k) station) new

-- what the sink shows of the last of k cycles: whether it fired, and its row
pub record IsLatest (l : Life) (k : ℕ) (a : ClockActor) : Type 0 where
  pub fired : a.went ≡ true → HasSunk l k × (row_of a.part ≡ Some (output_row l.setup.system l.setup.table (fired_after l k (sink l) - 1)))
  pub rested : a.went ≡ false → ¬ (HasSunk l k)
