-- The run of a wrapped system, and what is seen of it from outside.
use Rattle.std.specs.Prelude.{◌≡◌, ◌↔◌, ◌⊎◌, ℕ, ◌+◌, ◌-◌, ◌<◌, ◌==◌, Bool, true, false, if◌then◌else◌, List, [], ◌∷◌, ◌++◌, flat_map, length}
use Rattle.std.specs.List.{AllByRecursion}
use Rattle.lid_base.specs.Lists.{Extends}
use Rattle.lid_base.specs.Each.{from_each}
use Rattle.lid_graph.specs.declared.graph.Edge.{Edge}
use Rattle.lid_graph.specs.declared.graph.Graph.{Graph}
use Rattle.lid_graph.specs.Firings.{Counts}
use Rattle.lid_graph_laws.specs.Free.{free_firings}
use Rattle.lid_stations.specs.declared.placement.Placement.{Placement}
use Rattle.lid_stations.specs.Placements.{Links, station_count}
use Rattle.lid_stations.specs.Stations.{actor_count, filler, drainer, start_count, capacity}
use Rattle.lid_stations.specs.Markings.{self_edge}
use Rattle.lid_shell_laws.specs.Runs.{sink_of}
use Rattle.lid_emit_circuit.specs.Runs.{held_by, counts_up, rows_where, data_row}

-- the tokens that a station starts with: those that the source fills start empty
abbrev pub first_count : Links → Placement → ℕ → ℕ
first_count l p station = if filler l p station == 0 then 0 else start_count p station

-- the edges along a station and back
abbrev pub first_edges : Links → Placement → ℕ → List Edge
first_edges l p station =
    record { from = filler l p station; to = drainer l p station; tokens = first_count l p station }
    ∷ record { from = drainer l p station; to = filler l p station; tokens = capacity p station - first_count l p station }
    ∷ []

-- the marking of a wrapped system
abbrev pub emptied_marking : Links → Placement → Graph
emptied_marking l p = record {
  nodes = actor_count l p;
  edges = flat_map (first_edges l p) (from_each (λ station. station) 0 (station_count p.relays)) ++ from_each self_edge 0 (actor_count l p);
}

-- how often each actor has fired after k cycles. A row of the run has so many data bits, then whether a row is offered, then
-- whether none is taken. No actor has a cap; the source is held where no row is offered, and the sink where none is taken
abbrev pub fired_by : Links → Placement → ℕ → List (List Bool) → ℕ → Counts
fired_by l p inputs rows k = free_firings (emptied_marking l p) (held_by inputs (sink_of l) rows) k

-- how many tokens were put in a station, and taken from it, where actors have fired so often
abbrev pub put_in : Links → Placement → Counts → ℕ → ℕ
put_in l p counts station = counts (filler l p station) + first_count l p station

abbrev pub taken_from : Links → Placement → Counts → ℕ → ℕ
taken_from l p counts station = counts (drainer l p station)

-- what is seen from outside: in each cycle whether the source is stopped, whether a row is offered, and the data outputs
pub record Face : Type 0 where
  pub stop : ℕ → Bool
  pub valid : ℕ → Bool
  pub row : ℕ → List Bool

-- some station that the source fills holds its capacity
pub record IsStopped (l : Links) (p : Placement) (counts : Counts) : Type 0 where
  pub station : ℕ
  pub there : station < station_count p.relays
  pub filled : filler l p station ≡ 0
  pub full : put_in l p counts station ≡ taken_from l p counts station + capacity p station

-- each station that the sink drains holds a token
abbrev pub IsSinkServed : Links → Placement → Counts → Type 0
IsSinkServed l p counts =
    (station : ℕ) → station < station_count p.relays → drainer l p station ≡ sink_of l
    → taken_from l p counts station < put_in l p counts station

-- in each cycle of the run the face tells whether the source is stopped and whether the sink is served; where it is not, data
-- outputs are 0
pub record TellsItsState (l : Links) (p : Placement) (inputs : ℕ) (rows : List (List Bool)) (face : Face) : Type 0 where
  pub stops : (k : ℕ) → k < length rows → face.stop k ≡ true ↔ IsStopped l p (fired_by l p inputs rows k)
  pub offers : (k : ℕ) → k < length rows → face.valid k ≡ true ↔ IsSinkServed l p (fired_by l p inputs rows k)
  pub quiet : (k : ℕ) → k < length rows → face.valid k ≡ false → AllByRecursion (λ bit. bit ≡ false) (face.row k)

-- the rows that the source takes, and those that the sink gives
abbrev pub accepted_rows : Links → Placement → ℕ → List (List Bool) → List (List Bool)
accepted_rows l p inputs rows = rows_where (counts_up (fired_by l p inputs rows) 0) (data_row inputs rows) (length rows)

abbrev pub delivered_rows : Links → Placement → ℕ → List (List Bool) → Face → List (List Bool)
delivered_rows l p inputs rows face = rows_where (counts_up (fired_by l p inputs rows) (sink_of l)) face.row (length rows)

-- one list begins with the other
abbrev pub AreInStep : List (List Bool) → List (List Bool) → Type 0
AreInStep xs ys = Extends xs ys ⊎ Extends ys xs

-- whatever rows begin with the accepted ones, the delivered rows and the outputs for them are in step
abbrev pub Delivers : Links → Placement → ℕ → List (List Bool) → Face → (List (List Bool) → List (List Bool) → Type 0) → Type 0
Delivers l p inputs rows face IsOutputFor =
    (given outs : List (List Bool))
    → Extends (accepted_rows l p inputs rows) given → IsOutputFor given outs
    → AreInStep (delivered_rows l p inputs rows face) outs
