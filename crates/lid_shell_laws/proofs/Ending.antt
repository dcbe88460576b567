-- When a run ends in which nobody is held.
use Rattle.std.proofs.Common.{◌≡◌, ℕ, ◌+◌, ◌*◌, ◌<◌, ◌≤◌, sym, ◌∙◌, subst, arith}
use Rattle.std.specs.Int.{div_ceil}
use Rattle.lid_graph.specs.declared.graph.Graph.{Graph}
use Rattle.lid_graph.specs.Firings.{Counts, no_hold, IsFirstAtCap}
use Rattle.lid_graph_laws.proofs.Alive.{tokens_make_ratios, tokens_reach_caps}
use Rattle.lid_graph_laws.proofs.Walking.{lag_bounds_cycles}
use Rattle.lid_system.specs.declared.System.{System}
use Rattle.lid_system.specs.Systems.{IsWellFormed}
use Rattle.lid_stations.specs.declared.placement.Placement.{Placement}
use Rattle.lid_stations.specs.Placements.{links_of, Fits}
use Rattle.lid_stations.specs.Stations.{actor_count}
use Rattle.lid_stations.specs.Markings.{marking}
use Rattle.lid_stations.proofs.Edges.{node_count}
use Rattle.lid_stations.proofs.Alive.{rateable, have_tokens}
use Rattle.lid_shell_laws.specs.Runs.{cap_of, sink_of, fired_in, IsWithinLag}
use Rattle.lid_shell_laws.proofs.Caps.{cap_of_sink, caps_fit}

module _ (s : System) (p : Placement) (well : IsWellFormed s) (fits : Fits s p) (rows : ℕ) where
  abbrev g : Graph
  g = marking (links_of s) p

  abbrev cap : Counts
  cap = cap_of (links_of s) rows

  abbrev sink : ℕ
  sink = sink_of (links_of s)

  sink_cap : cap sink ≡ rows
  sink_cap = cap_of_sink s rows well.least

  pub ends : (k : ℕ) → actor_count (links_of s) p * rows ≤ k → fired_in (links_of s) p rows no_hold k sink ≡ rows
  ends k late =
      let least = well.least in
      let below : sink < g.nodes = omega (arith, node_count s p) in
      let enough : g.nodes * cap sink ≤ k = subst (λ (n : ℕ). n * cap sink ≤ k) (sym (node_count s p)) (subst (λ (n : ℕ). actor_count (links_of s) p * n ≤ k) (sym sink_cap) late) in
      tokens_reach_caps g cap k sink (rateable s p well fits).paired (caps_fit s p well fits rows) (have_tokens s p well fits) below enough ∙ sink_cap

  pub ends_within_lag : (cycles : ℕ) → IsFirstAtCap g cap no_hold sink cycles → IsWithinLag (links_of s) p rows cycles
  ends_within_lag cycles first n d lag ratio is_lag = by_bound (lag_bounds_cycles g cap n d sink lag (caps_fit s p well fits rows) is_lag.all ratio.positive (tokens_make_ratios g sink n d (have_tokens s p well fits) ratio))
    where
      by_bound : (k : ℕ) × IsFirstAtCap g cap no_hold sink k × (k ≤ div_ceil (d * cap sink + lag) n) → cycles ≤ div_ceil (d * rows + lag) n
      by_bound found = subst (λ (most : ℕ). cycles ≤ div_ceil (d * most + lag) n) sink_cap (omega (arith, first.first found.0 found.1.reached, found.2))
