-- The ratio of each component of a marking, and the bound that it gives.
use Rattle.std.proofs.Common.{◌≡◌, ℕ, ◌+◌, ◌<◌, ◌≤◌, [], sym, refl, subst, arith}
use Rattle.lid_graph.specs.declared.graph.Graph.{Graph}
use Rattle.lid_graph.specs.Ratios.{IsRatio}
use Rattle.lid_graph_laws.proofs.Alive.{tokens_make_ratios}
use Rattle.lid_graph_ratio_laws.specs.Laws.{AreRatioAndLag, HasRatioAndLags}
use Rattle.lid_graph_ratio_laws.proofs.Single.{components_have_ratios}
use Rattle.lid_system.specs.declared.System.{System}
use Rattle.lid_system.specs.Systems.{IsWellFormed}
use Rattle.lid_stations.specs.declared.placement.Placement.{Placement}
use Rattle.lid_stations.specs.Placements.{links_of, Fits}
use Rattle.lid_stations.specs.Stations.{actor_count}
use Rattle.lid_stations.specs.Markings.{marking}
use Rattle.lid_stations.proofs.Edges.{node_count}
use Rattle.lid_stations.proofs.Alive.{rateable, have_tokens}
use Rattle.lid_shell_laws.specs.Runs.{sink_of, IsWithinLag}
use Rattle.lid_clock_laws.specs.Bounds.{HasBound}
use Rattle.lid_clock_laws.specs.Laws.{HasRatioAboveZero, MarkingsHaveRatiosAndLags, RunsHaveBounds}

module _ (s : System) (p : Placement) (well : IsWellFormed s) (fits : Fits s p) where
  abbrev g : Graph
  g = marking (links_of s) p

  pub above_zero : (v : ℕ) → v < actor_count (links_of s) p → HasRatioAboveZero s p v
  above_zero v below = record { has = has; moves = tokens_make_ratios g v has.p has.q (have_tokens s p well fits) (has.each v ([], refl)).ratio }
    where
      has : HasRatioAndLags g v
      has = components_have_ratios g v (rateable s p well fits).paired (subst (λ (n : ℕ). v < n) (sym (node_count s p)) below)

  pub bound_had : (rows cycles : ℕ) → IsWithinLag (links_of s) p rows cycles → HasBound (links_of s) p rows cycles
  bound_had rows cycles within = by_ratio (above_zero sink (let least = well.least in omega arith))
    where
      sink : ℕ
      sink = sink_of (links_of s)

      by_ratio : HasRatioAboveZero s p sink → HasBound (links_of s) p rows cycles
      by_ratio r =
          let own = r.has.each sink ([], refl) in
          record { p = r.has.p; q = r.has.q; lag = r.has.lag sink; ratio = own.ratio; lagging = own.lagging; moves = r.moves; within = within r.has.p r.has.q (r.has.lag sink) own.ratio own.lagging }

pub markings_have_ratios_and_lags : MarkingsHaveRatiosAndLags
markings_have_ratios_and_lags s p v well fits below = above_zero s p well fits v below

pub runs_have_bounds : RunsHaveBounds
runs_have_bounds s p rows cycles well fits within = bound_had s p well fits rows cycles within
