-- What is counted of the run of a generated design is its summary.
use Rattle.std.proofs.Common.{◌≡◌, ℕ, ◌≤◌, Bool, List, length, refl, ◌∙◌, ap, subst, arith}
use Rattle.std.specs.List.{AllByRecursion}
use Rattle.lid_net_law.specs.Agreement.{IsSystemOf}
use Rattle.lid_design.specs.declared.Design.{Design}
use Rattle.lid_design.specs.Walks.{HasTable}
use Rattle.lid_design.specs.Columns.{drivers, root_inputs, root_outputs, output_rows}
use Rattle.lid_gen.specs.Designs.{generated}
use Rattle.lid_gen.specs.Runs.{generated_rows}
use Rattle.lid_graph.specs.Firings.{no_hold, IsFirstAtCap}
use Rattle.lid_graph.specs.Ratios.{IsRatio}
use Rattle.lid_net.specs.Graphs.{IsGraphOf}
use Rattle.lid_shell_laws.specs.Runs.{cap_of, sink_of}
use Rattle.lid_system.specs.declared.System.{System}
use Rattle.lid_system.specs.Systems.{IsWellFormed}
use Rattle.lid_stations.specs.declared.placement.Placement.{Placement}
use Rattle.lid_stations.specs.Placements.{Links, links_of, Fits}
use Rattle.lid_stations.specs.Markings.{marking}
use Rattle.lid_top_script.specs.Generated.{IsSummary, generated_links, generated_placement}
use Rattle.lid_top_gen.specs.Counts.{AreRunCounts}
use Rattle.lid_top_gen.proofs.Lives.{are_outs, is_over, ones_are}

-- the root has four outputs
pub four_outputs : (seed shells : ℕ) → length (root_outputs (generated seed shells)) ≡ 4
unfolding generated
four_outputs seed shells = refl

-- the rows are as wide as the inputs of the root
pub run_wide : (seed shells rows : ℕ) → (generated_rows seed shells rows).columns ≡ root_inputs (generated seed shells)
    → AllByRecursion (λ row. length row ≡ length (generated_rows seed shells rows).columns) (generated_rows seed shells rows).bits
    → AllByRecursion (λ row. length row ≡ length (root_inputs (generated seed shells))) (generated_rows seed shells rows).bits
run_wide seed shells rows named wide = subst (λ (names : List (List ℕ)). AllByRecursion (λ row. length row ≡ length names) (generated_rows seed shells rows).bits) named wide

module _ (seed shells rows : ℕ) (s : System) (of : IsSystemOf (generated seed shells) s) (well : IsWellFormed s) (graph : IsGraphOf (generated seed shells) s.channels) where
  abbrev d : Design
  d = generated seed shells

  abbrev bits : List (List Bool)
  bits = (generated_rows seed shells rows).bits

  abbrev p : Placement
  p = generated_placement seed shells rows (length s.channels)

  links_are : links_of s ≡ generated_links seed shells s.channels
  links_are = ap (λ n. (let l : Links = record { nodes = n; channels = s.channels } in l)) of.nodes

  module _ (few : rows ≤ 1000000) (many : length bits ≡ rows) (wide : AllByRecursion (λ row. length row ≡ length (root_inputs d)) bits) (fits : Fits s p) (has : HasTable (drivers d)) where
    pub is_summary : (channels stations cycles ones ratio_p ratio_q : ℕ) → channels ≡ length s.channels → stations ≡ length p.caps → AreRunCounts s p bits cycles ones → IsRatio (marking (links_of s) p) (sink_of (links_of s)) ratio_p ratio_q
        → IsSummary seed shells rows (record { shells = shells; channels = channels; stations = stations; rows = rows; ones = ones; cycles = cycles; p = ratio_p; q = ratio_q })
    is_summary channels stations cycles ones ratio_p ratio_q all_channels all_stations counts ratio =
        let table = has bits in
        let short : length bits ≤ 1000000 = omega (arith, few, many) in
        let ends = is_over d s of well bits wide p fits short table.0 table.1 cycles ones counts in
        let all = subst (λ n. IsFirstAtCap (marking (links_of s) p) (cap_of (links_of s) n) no_hold (sink_of (links_of s)) cycles) many ends in
        record {
          channels = s.channels;
          graph = graph;
          outs = output_rows d table.0 (length bits);
          are_outs = are_outs d s of well bits wide p fits short table.0 table.1;
          shells_are = refl;
          channels_are = all_channels;
          stations_are = all_stations ∙ fits.rules.caps;
          rows_are = refl;
          ones_are = ones_are d s of well bits wide p fits short table.0 table.1 cycles ones counts;
          ends = subst (λ l. IsFirstAtCap (marking l p) (cap_of l rows) no_hold (sink_of l) cycles) links_are all;
          ratio = subst (λ l. IsRatio (marking l p) (sink_of l) ratio_p ratio_q) links_are ratio;
        }
