-- Serves the bodies: stations as they are listed, actors as they are made, and start tokens as they are written.
use Rattle.std.specs.Prelude.{◌≡◌, ℕ, ◌<◌, ◌≤◌, ◌==◌, Bool, if◌then◌else◌, List, [], ◌∷◌, ◌++◌, length, filter, Option, Some, None, slice_get, slice_index_or}
use Rattle.std.specs.declared.vec.Vec.{Vec}
use Rattle.std.specs.declared.alloc.Global.{Global}
use Rattle.lid_design.specs.Network.{Table}
use Rattle.lid_base.specs.Each.{from_each}
use Rattle.lid_system.specs.declared.System.{System}
use Rattle.lid_system.specs.declared.Channel.{Channel}
use Rattle.lid_system.specs.Systems.{Point}
use Rattle.lid_system.specs.Tables.{IsTable}
use Rattle.lid_shell_nodes.specs.Nodes.{tokens_from}
use Rattle.lid_shell_nodes.specs.Placing.{ArePlacesOf}
use Rattle.lid_station.specs.declared.looks.Side.{Side}
use Rattle.lid_station.specs.declared.looks.Side.TheVariants.{Drain, Fill}
use Rattle.lid_stations.specs.declared.placement.Placement.{Placement}
use Rattle.lid_stations.specs.Placed.{Placing, links_in}
use Rattle.lid_stations.specs.Placements.{Links}
use Rattle.lid_stations.specs.Stations.{filler, drainer}
use Rattle.lid_shell_laws.specs.Runs.{drained_by, filled_by}
use Rattle.lid_walk_machine.specs.Plans.{stations_of, filler_of}
use Rattle.lid_walk_machine.specs.Setups.{plan}
use Rattle.lid_shell_laws.specs.Setups.{Setup, IsSetup}
use Rattle.lid_walk_machine.specs.Machine.{begun}
use Rattle.lid_shell.specs.declared.actor.Actor.{Actor}
use Rattle.lid_shell.specs.Actors.{IsActor}
use Rattle.lid_walk.specs.declared.ends.NodeWiring.{NodeWiring}
use Rattle.lid_walk.specs.declared.ends.FillWiring.{FillWiring}
use Rattle.lid_walk.specs.Setups.{IsSetupOf}

-- the stations below a number that an actor drains, and those that it fills
abbrev pub drained_below : Links → Placement → ℕ → ℕ → List ℕ
drained_below l p v n = filter (λ station. drainer l p station == v) (from_each (λ station. station) 0 n)

abbrev pub filled_below : Links → Placement → ℕ → ℕ → List ℕ
filled_below l p v n = filter (λ station. filler l p station == v) (from_each (λ station. station) 0 n)

-- those of which it has one of both sides
abbrev pub ends_by : Side → Links → Placement → ℕ → List ℕ
ends_by Drain l p v = drained_by l p v
ends_by Fill l p v = filled_by l p v

abbrev pub ends_below : Side → Links → Placement → ℕ → ℕ → List ℕ
ends_below Drain l p v n = drained_below l p v n
ends_below Fill l p v n = filled_below l p v n

-- that of a channel, whose first and last stations are these, where it leads to the node or comes from it
abbrev pub end_of : Side → Channel → ℕ → ℕ → ℕ → List ℕ
end_of Drain d v first last = if d.to == v then last ∷ [] else []
end_of Fill d v first last = if d.from == v then first ∷ [] else []

-- so many lists without stations
pub record AreEmpty (count : ℕ) (lists : List (Vec ℕ Global)) : Type 0 where
  pub many : length lists ≡ count
  pub each : (v : ℕ) (d : Vec ℕ Global) → v < count → (slice_index_or lists v d).items ≡ []

-- the list of each node got that of a channel, where the channel leads to the node or comes from it
pub record HasEnd (side : Side) (c : Channel) (first last : ℕ) (old new : List (Vec ℕ Global)) : Type 0 where
  pub many : length new ≡ length old
  pub each : (v : ℕ) (d : Vec ℕ Global) → v < length old → (slice_index_or new v d).items ≡ (slice_index_or old v d).items ++ end_of side c v first last

-- the stations below a number of which each node has this side
pub record AreEndsBelow (side : Side) (q : Placing) (n : ℕ) (lists : List (Vec ℕ Global)) : Type 0 where
  pub many : length lists ≡ length q.system.nodes
  pub each : (v : ℕ) (d : Vec ℕ Global) → v < length q.system.nodes → (slice_index_or lists v d).items ≡ ends_below side (links_in q) q.placement v n

-- all of which each node has this side
pub record AreEndsBy (side : Side) (q : Placing) (lists : List (Vec ℕ Global)) : Type 0 where
  pub many : length lists ≡ length q.system.nodes
  pub each : (v : ℕ) (d : Vec ℕ Global) → v < length q.system.nodes → (slice_index_or lists v d).items ≡ ends_by side (links_in q) q.placement v

-- so are all nodes wired
pub record AreWired (q : Placing) (x : NodeWiring) : Type 0 where
  pub placed : ArePlacesOf q.system x.places
  pub drained : AreEndsBy Drain q x.ins.items
  pub filled : AreEndsBy Fill q x.outs.items

-- so are they, as far as tokens at the start want it
pub record AreFillsWired (q : Placing) (x : FillWiring) : Type 0 where
  pub placed : ArePlacesOf q.system x.places
  pub filled : AreEndsBy Fill q x.outs.items

-- actor v of each setup of a system, its stations and its rows, which has not fired
abbrev pub IsUnfiredActor : Placing → List (List Bool) → ℕ → Actor → Type 0
IsUnfiredActor q rows v a = (m : Setup) → IsSetupOf m q.system q.placement rows → IsActor m v (begun v) a

-- the first actors, so many
pub record AreFirstActors (q : Placing) (rows : List (List Bool)) (many : ℕ) (actors : List Actor) : Type 0 where
  pub many_are : length actors ≡ many
  pub each : (v : ℕ) (a : Actor) → slice_get actors v ≡ Some a → IsUnfiredActor q rows v a

-- the tokens that a node puts in the first row, which is this
abbrev pub AreTokensOf : System → ℕ → List Bool → List ℕ → Type 0
AreTokensOf s v row tokens = (rows : List (List Bool)) (b : Table Point) → IsTable s rows b → slice_get rows 0 ≡ Some row → tokens ≡ tokens_from s b v 0

-- the first of some stations, so many, have got their tokens, and no other stations
pub record AreWritten (f : ℕ → ℕ) (stations : List ℕ) (many : ℕ) (old new : List (Option ℕ)) : Type 0 where
  pub those : (i station : ℕ) → i < many → slice_get stations i ≡ Some station → slice_get new station ≡ Some (Some (f station))
  pub others : (station : ℕ) → ((i : ℕ) → i < many → slice_get stations i ≡ Some station → ⊥) → slice_get new station ≡ slice_get old station

-- the stations that nodes below v fill have got their tokens, and no other stations
pub record HasFirsts (m : Setup) (v : ℕ) (firsts : List (Option ℕ)) : Type 0 where
  pub below : (station : ℕ) → station < stations_of (plan m) → filler_of (plan m) station < v → slice_get firsts station ≡ Some (Some ((plan m).token station 0))
  pub later : (station : ℕ) → station < stations_of (plan m) → v ≤ filler_of (plan m) station → slice_get firsts station ≡ Some None

-- a setup of a system and its stations, in which this is the first row
pub record BeginsWith (m : Setup) (q : Placing) (row : List Bool) : Type 0 where
  pub rules : IsSetup m
  pub system : m.system ≡ q.system
  pub placement : m.placement ≡ q.placement
  pub first : slice_get m.input 0 ≡ Some row
