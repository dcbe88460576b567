-- How often each actor of a wrapped system has fired, by the marked graph of its plan.
use Rattle.std.specs.Prelude.{ℕ, ◌+◌, ◌-◌, Bool, List, [], ◌∷◌, ◌++◌, flat_map}
use Rattle.lid_base.specs.Each.{from_each}
use Rattle.lid_graph.specs.declared.graph.Edge.{Edge}
use Rattle.lid_graph.specs.declared.graph.Graph.{Graph}
use Rattle.lid_graph.specs.Firings.{Counts}
use Rattle.lid_graph_laws.specs.Free.{free_firings}
use Rattle.lid_emit_circuit.specs.Plans.{CircuitPlan}
use Rattle.lid_emit_circuit.specs.Network.{sink}
use Rattle.lid_emit_circuit.specs.Runs.{held_by}

-- two edges for each station, and one for each actor
abbrev pub station_edges : CircuitPlan → ℕ → List Edge
station_edges q s =
    record { from = q.filler s; to = q.drainer s; tokens = q.first s }
    ∷ record { from = q.drainer s; to = q.filler s; tokens = q.capacity s - q.first s }
    ∷ []

abbrev pub self_edge : ℕ → Edge
self_edge v = record { from = v; to = v; tokens = 1 }

abbrev pub graph : CircuitPlan → Graph
graph q = record {
  nodes = q.actors;
  edges = flat_map (station_edges q) (from_each (λ s. s) 0 q.stations) ++ from_each self_edge 0 q.actors;
}

-- how often an actor has fired after k cycles
abbrev pub fired : CircuitPlan → List (List Bool) → ℕ → Counts
fired q rows k = free_firings (graph q) (held_by q.inputs (sink q) rows) k

-- how many tokens were put in a station, those that it started with included, and how many were taken
abbrev pub put_count : CircuitPlan → Counts → ℕ → ℕ
put_count q counts s = counts (q.filler s) + q.first s

abbrev pub taken_count : CircuitPlan → Counts → ℕ → ℕ
taken_count q counts s = counts (q.drainer s)
