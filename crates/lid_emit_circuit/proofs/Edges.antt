-- The edges of a plan: two for each station, and one for each actor.
use Rattle.std.proofs.Common.{◌≡◌, ℕ, ◌+◌, ◌-◌, ◌<◌, ◌⊎◌, inl, inr, List, flat_map, refl, sym, subst, arith}
use Rattle.lid_base.specs.Lists.{Among}
use Rattle.lid_base.proofs.Lists.{among_left, among_append, among_flat, flat_among}
use Rattle.lid_base.specs.Each.{from_each}
use Rattle.lid_graph.specs.declared.graph.Edge.{Edge}
use Rattle.lid_emit_circuit.specs.Plans.{CircuitPlan}
use Rattle.lid_emit_circuit.specs.Counts.{station_edges, self_edge, graph}
use Rattle.lid_base.proofs.Each.{each_among, among_each}

module _ (q : CircuitPlan) where
  abbrev pub forth : ℕ → Edge
  forth s = record { from = q.filler s; to = q.drainer s; tokens = q.first s }

  abbrev pub back : ℕ → Edge
  back s = record { from = q.drainer s; to = q.filler s; tokens = q.capacity s - q.first s }

  abbrev along : List Edge
  along = flat_map (station_edges q) (from_each (λ s. s) 0 q.stations)

  abbrev selves : List Edge
  selves = from_each self_edge 0 q.actors

  pub forth_there : (s : ℕ) → s < q.stations → Among (forth s) (graph q).edges
  forth_there s there =
      among_left (forth s) along selves
      (among_flat {A = ℕ} {B = Edge} (station_edges q) s (forth s) (from_each (λ s. s) 0 q.stations) (each_among (λ s. s) 0 q.stations s (omega arith) (omega arith)) (inl refl))

  pub back_there : (s : ℕ) → s < q.stations → Among (back s) (graph q).edges
  back_there s there =
      among_left (back s) along selves
      (among_flat {A = ℕ} {B = Edge} (station_edges q) s (back s) (from_each (λ s. s) 0 q.stations) (each_among (λ s. s) 0 q.stations s (omega arith) (omega arith)) (inr (inl refl)))

  -- and there are no others
  pub each_edge : (P : Edge → Type 0) → ((s : ℕ) → s < q.stations → P (forth s)) → ((s : ℕ) → s < q.stations → P (back s)) → ((v : ℕ) → v < q.actors → P (self_edge v)) → (e : Edge) → Among e (graph q).edges → P e
  each_edge P by_forth by_back by_self e there = by (among_append e along selves there)
    where
      by_station : (s : ℕ) → s < q.stations → Among e (station_edges q s) → P e
      by_station s below (inl same) = subst P (sym same) (by_forth s below)
      by_station s below (inr (inl same)) = subst P (sym same) (by_back s below)
      by_station s below (inr (inr none)) = absurd none

      by_place : (s : ℕ) × Among s (from_each (λ s. s) 0 q.stations) × Among e (station_edges q s) → P e
      by_place found =
          let at = among_each (λ s. s) 0 q.stations found.0 found.1 in
          let high : at.0 < 0 + q.stations = at.2 in
          let is : found.0 ≡ at.0 = at.3 in
          by_station found.0 (omega arith) found.2

      by : Among e along ⊎ Among e selves → P e
      by (inl here) = by_place (flat_among {A = ℕ} {B = Edge} (station_edges q) e (from_each (λ s. s) 0 q.stations) here)
      by (inr here) =
          let at = among_each self_edge 0 q.actors e here in
          let high : at.0 < 0 + q.actors = at.2 in
          subst P (sym at.3) (by_self at.0 (omega arith))
