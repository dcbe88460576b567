-- How a run is built: its actors, which have not fired, and its stations, which are joined to them one by one.
use Rattle.std.specs.Prelude.{◌≡◌, ℕ, ◌+◌, ◌<◌, ◌≤◌, ◌⊎◌, ◌==◌, Bool, true, false, if◌then◌else◌, List, [], ◌∷◌, ◌++◌, length, get_or, filter, Option, Some, IfSome, slice_get, ⊤}
use Rattle.lid_design.specs.Network.{Table}
use Rattle.lid_base.specs.Each.{from_each}
use Rattle.lid_system.specs.declared.System.{System}
use Rattle.lid_system.specs.Systems.{Point, IsWellFormed}
use Rattle.lid_system.specs.Tables.{IsTable}
use Rattle.lid_shell_nodes.specs.Nodes.{tokens_from}
use Rattle.lid_shell_nodes.specs.Wiring.{IsSourceOf, IsShellOf, IsSinkOf}
use Rattle.lid_stations.specs.declared.placement.Placement.{Placement}
use Rattle.lid_stations.specs.Placements.{Links, links_of}
use Rattle.lid_stations.specs.Stations.{actor_count, filler, drainer, capacity}
use Rattle.lid_shell_laws.specs.Runs.{cap_of}
use Rattle.lid_clock.specs.declared.part.Role.{Role}
use Rattle.lid_clock.specs.declared.part.Role.TheVariants.{Source, Shell, Mover, Sink}
use Rattle.lid_clock.specs.declared.actor.ClockActor.{ClockActor}
use Rattle.lid_clock.specs.declared.station.ClockStation.{ClockStation}
use Rattle.lid_clock.specs.Rings.{token_in}
use Rattle.lid_clock.specs.Parts.{IsOfSize, MakesTokens}
use Rattle.lid_clock.specs.Actors.{HasPlaces, IsSameActor}

-- the part of an actor that has not fired: the source holds the first row, where there is one
abbrev pub IsNewRole : System → Option (List Bool) → ℕ → Role → Type 0
IsNewRole s first v (Source node row) = (v ≡ 0) × IsSourceOf s node × (length row.items ≡ node.width) × IfSome first (λ given. row.items ≡ given)
IsNewRole s first v (Shell node) = (0 < v) × (v + 1 < length s.nodes) × ((b : Table Point) → IsShellOf s b v 0 node)
IsNewRole s first v Mover = length s.nodes ≤ v
IsNewRole s first v (Sink node row) = IsSinkOf s v node × (length row.items ≡ length node.reads)

-- an actor of a run of so many rows that has not fired
pub record IsNew (s : System) (rows : ℕ) (first : Option (List Bool)) (v : ℕ) (a : ClockActor) : Type 0 where
  pub capped : a.cap ≡ cap_of (links_of s) rows v
  pub fired_is : a.fired ≡ 0
  pub rests : a.went ≡ false
  pub is : IsNewRole s first v a.part

-- all actors are new
abbrev pub AreNew : System → ℕ → Option (List Bool) → List ClockActor → Type 0
AreNew s rows first actors = (v : ℕ) (a : ClockActor) → slice_get actors v ≡ Some a → IsNew s rows first v a

-- no station is joined to an actor
abbrev pub IsAlone : ClockActor → Type 0
IsAlone a = (a.ins.items ≡ []) × (a.outs.items ≡ [])

-- so many actors, each new and alone
pub record AreUnjoined (s : System) (rows : ℕ) (first : Option (List Bool)) (count : ℕ) (actors : List ClockActor) : Type 0 where
  pub many : length actors ≡ count
  pub new : AreNew s rows first actors
  pub alone : (v : ℕ) (a : ClockActor) → slice_get actors v ≡ Some a → IsAlone a

-- of the first n stations those that an actor drains, and those that it fills
abbrev pub drained_of : Links → Placement → ℕ → ℕ → List ℕ
drained_of l p n v = filter (λ station. drainer l p station == v) (from_each (λ station. station) 0 n)

abbrev pub filled_of : Links → Placement → ℕ → ℕ → List ℕ
filled_of l p n v = filter (λ station. filler l p station == v) (from_each (λ station. station) 0 n)

-- an actor to which the first n stations were joined
pub record IsActorJoined (l : Links) (p : Placement) (n v : ℕ) (a : ClockActor) : Type 0 where
  pub drains : a.ins.items ≡ drained_of l p n v
  pub fills : a.outs.items ≡ filled_of l p n v

-- all actors, to which the first n stations were joined
pub record AreJoined (l : Links) (p : Placement) (n : ℕ) (actors : List ClockActor) : Type 0 where
  pub many : length actors ≡ actor_count l p
  pub each : (v : ℕ) (a : ClockActor) → slice_get actors v ≡ Some a → IsActorJoined l p n v a

-- an empty station between two actors, of a capacity
pub record IsEmptyBetween (filler drainer capacity : ℕ) (x : ClockStation) : Type 0 where
  pub filled : x.filler ≡ filler
  pub drained : x.drainer ≡ drainer
  pub put_is : x.put ≡ 0
  pub taken_is : x.taken ≡ 0
  pub size : length x.places ≡ capacity

-- a station as it was laid: empty, and its slot is the number of stations before it that its filler fills
pub record IsLaid (l : Links) (p : Placement) (station : ℕ) (x : ClockStation) : Type 0 where
  pub empty : IsEmptyBetween (filler l p station) (drainer l p station) (capacity p station) x
  pub slot : x.slot ≡ length (filled_of l p station (filler l p station))

-- the first n stations were laid, and joined to all actors
pub record HasLaid (l : Links) (p : Placement) (n : ℕ) (actors : List ClockActor) (stations : List ClockStation) : Type 0 where
  pub joined : AreJoined l p n actors
  pub many : length stations ≡ n
  pub each : (i : ℕ) (x : ClockStation) → slice_get stations i ≡ Some x → IsLaid l p i x

-- actors that were new still are
abbrev pub KeepsNew : System → List ClockActor → List ClockActor → Type 0
KeepsNew s old new = (rows : ℕ) (first : Option (List Bool)) → AreNew s rows first old → AreNew s rows first new

-- a station was joined to an actor, where that drains it, and where that fills it
pub record IsJoinedBy (drains fills : Bool) (station : ℕ) (old new : ClockActor) : Type 0 where
  pub ins : new.ins.items ≡ old.ins.items ++ (if drains then station ∷ [] else [])
  pub outs : new.outs.items ≡ old.outs.items ++ (if fills then station ∷ [] else [])
  pub rest : new ≡ record old { ins = new.ins; outs = new.outs }

-- a station was joined to the actors that fill and drain it
pub record Joins (station filler drainer : ℕ) (old new : List ClockActor) : Type 0 where
  pub many : length new ≡ length old
  pub each : (v : ℕ) (a : ClockActor) → slice_get new v ≡ Some a → (b : ClockActor) × (slice_get old v ≡ Some b) × IsJoinedBy (drainer == v) (filler == v) station b a

-- a slot is the number of stations that the filler fills
abbrev pub IsNextSlot : ℕ → List ClockActor → ℕ → Type 0
IsNextSlot filler actors slot = (a : ClockActor) → slice_get actors filler ≡ Some a → slot ≡ length a.outs.items

-- a station can be joined to these actors
pub record CanJoin (filler drainer : ℕ) (actors : List ClockActor) : Type 0 where
  pub filled : filler < length actors
  pub drained : drainer < length actors
  pub few : (a : ClockActor) → slice_get actors filler ≡ Some a → length a.outs.items ≤ 65536

-- what a part shows of its state: the tokens of the first row, where it has not fired
abbrev pub ShowsFirstTokens : Role → List ℕ → Type 0
ShowsFirstTokens (Source node row) tokens = MakesTokens node row.items tokens
ShowsFirstTokens (Shell node) tokens =
    (s : System) (rows : List (List Bool)) (b : Table Point) (v t : ℕ)
    → IsWellFormed s → IsTable s rows b → t < length rows → IsShellOf s b v t node → tokens ≡ tokens_from s b v t
ShowsFirstTokens Mover tokens = ⊤
ShowsFirstTokens (Sink node row) tokens = ⊤

-- the part of an actor is of the size of its stations
abbrev pub IsSized : ClockActor → Type 0
IsSized a = IsOfSize a.part (length a.ins.items) (length a.outs.items)

-- an actor has got room for tokens, and where there are rows it shows those of the first one
pub record IsReadied (some : Bool) (old new : ClockActor) : Type 0 where
  pub same : IsSameActor old new
  pub fired : new.fired ≡ old.fired
  pub went : new.went ≡ old.went
  pub part : new.part ≡ old.part
  pub places : HasPlaces new
  pub shows : some ≡ true → ShowsFirstTokens new.part new.tokens.items

-- all actors were readied
pub record AreReadied (some : Bool) (old new : List ClockActor) : Type 0 where
  pub many : length new ≡ length old
  pub each : (v : ℕ) (a : ClockActor) → slice_get new v ≡ Some a → (b : ClockActor) × (slice_get old v ≡ Some b) × IsReadied some b a

-- a station can gain the token in its slot of its filler's
pub record CanGain (actors : List ClockActor) (x : ClockStation) : Type 0 where
  pub there : x.filler < length actors
  pub slot : (a : ClockActor) → slice_get actors x.filler ≡ Some a → x.slot < length a.tokens.items
  pub put_is : x.put ≡ 0
  pub taken_is : x.taken ≡ 0

-- it has gained it
pub record HasGained (actors : List ClockActor) (old new : ClockStation) : Type 0 where
  pub filled : new.filler ≡ old.filler
  pub slot : new.slot ≡ old.slot
  pub drained : new.drainer ≡ old.drainer
  pub put_is : new.put ≡ 1
  pub taken_is : new.taken ≡ 0
  pub size : length new.places ≡ length old.places
  pub token : (a : ClockActor) → slice_get actors old.filler ≡ Some a → token_in new.places 0 ≡ get_or a.tokens.items old.slot 0

-- where there are rows, a station that a node fills starts with a token, and each other with none
abbrev pub StationBegins : Bool → ℕ → List ClockActor → ClockStation → ClockStation → Type 0
StationBegins some nodes actors old new =
    ((some ≡ true) × (old.filler < nodes) × HasGained actors old new) ⊎ (((some ≡ false) ⊎ (nodes ≤ old.filler)) × (new ≡ old))

-- all stations have begun
pub record AllBegin (some : Bool) (nodes : ℕ) (actors : List ClockActor) (old new : List ClockStation) : Type 0 where
  pub many : length new ≡ length old
  pub each : (i : ℕ) (x : ClockStation) → slice_get new i ≡ Some x → (y : ClockStation) × (slice_get old i ≡ Some y) × StationBegins some nodes actors y x
