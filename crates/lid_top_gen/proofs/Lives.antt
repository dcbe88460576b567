-- The run of the system of a design for rows: there is one, and what is counted of it is told of the design.
use Rattle.std.proofs.Common.{◌≡◌, ℕ, ◌-◌, ◌≤◌, Bool, List, [], length, map, refl, sym, ◌∙◌, ap, arith}
use Rattle.std.proofs.lemmas.List.{length-map}
use Rattle.std.specs.List.{AllByRecursion}
use Rattle.std.specs.Option.{option_map_or}
use Rattle.lid_design.specs.declared.Design.{Design}
use Rattle.lid_design.specs.Network.{Table, IsStrict}
use Rattle.lid_base.specs.Each.{from_each}
use Rattle.lid_design.specs.Walks.{HasTable}
use Rattle.lid_design.specs.WellFormed.{IsWellFormed as IsFormed}
use Rattle.lid_design.specs.Columns.{Column, drivers, root_inputs, root_outputs, output_rows, IsStrictOutput}
use Rattle.lid_graph.specs.Firings.{no_hold, IsFirstAtCap}
use Rattle.lid_system.specs.declared.System.{System}
use Rattle.lid_system.specs.declared.Node.TheVariants.{Sink}
use Rattle.lid_system.specs.Systems.{Point, IsWellFormed}
use Rattle.lid_system.specs.Streams.{output_row, IsOutput}
use Rattle.lid_system.specs.Tables.{input_reads, in_bit}
use Rattle.lid_system.proofs.Points.{last_node}
use Rattle.lid_system.proofs.Streaming.{inputs_agree}
use Rattle.lid_net_law.specs.Agreement.{seen, IsSystemOf}
use Rattle.lid_net_law.proofs.Agreeing.{table_is, rows_are, output_back}
use Rattle.lid_check.specs.Acceptance.{IsAccepted}
use Rattle.lid_check.proofs.Sound.{judged_of}
use Rattle.lid_strict.proofs.Accepted.{table_of}
use Rattle.lid_stations.specs.declared.placement.Placement.{Placement}
use Rattle.lid_stations.specs.Placements.{links_of, Fits}
use Rattle.lid_stations.specs.Markings.{marking}
use Rattle.lid_shell_laws.specs.Runs.{cap_of, sink_of}
use Rattle.lid_shell_laws.proofs.Caps.{cap_of_sink}
use Rattle.lid_clock.specs.Lives.{Life}
use Rattle.lid_shell_laws.specs.Setups.{IsInputRow}
use Rattle.lid_clock.specs.Clocks.{IsFreeLife}
use Rattle.lid_top_script.specs.Generated.{ones_of}
use Rattle.lid_top_gen.specs.Counts.{HasLife, AreRunCounts}
use Rattle.lid_base.proofs.Each.{each_same}
use Rattle.lid_base.proofs.Alls.{all_weaker}

-- each accepted design has a strict table
pub has_table : (d : Design) → IsFormed d → IsAccepted d → HasTable (drivers d)
has_table d formed accepted = table_of d (judged_of d formed accepted.models) accepted.loops

module _ (d : Design) (s : System) (of : IsSystemOf d s) (well : IsWellFormed s) where
  -- an output row is as wide as the outputs of the root
  pub row_long : (b : Table Point) (t : ℕ) → length (output_row s b t) ≡ length (root_outputs d)
  row_long b t =
      let last = last_node s well in
      let is = well.each_node (length s.nodes - 1) (Sink last.0 last.1) last.2 in
      ap (λ o. length (map (in_bit s b t) (option_map_or input_reads o []))) last.2
      ∙ length-map last.1 (in_bit s b t)
      ∙ is.width
      ∙ ap length (of.sink (length s.nodes - 1) last.0 last.1 last.2).0

  module _ (rows : List (List Bool)) (wide : AllByRecursion (λ row. length row ≡ length (root_inputs d)) rows) where
    pub rows_wide : AllByRecursion (IsInputRow s) rows
    rows_wide = all_weaker (λ row. length row ≡ length (root_inputs d)) (IsInputRow s) rows (λ row is columns here. is ∙ ap length (sym (of.source 0 columns here))) wide

    module _ (p : Placement) (fits : Fits s p) (few : length rows ≤ 1000000) (b : Table Column) (strict : IsStrict (drivers d) rows b) where
      abbrev life : Life
      life = record { setup = record { system = s; placement = p; input = rows; table = seen d of.columns b }; hold = no_hold }

      free : IsFreeLife life rows
      free = record {
        rules = record { system = well; fits = fits; few = few; wide = rows_wide; table = table_is d s of well rows b strict };
        input = refl;
        nobody = λ k v. refl;
      }

      pub has_life : HasLife s p rows
      has_life = (life, free, refl, refl)

      abbrev outs : List (List Bool)
      outs = output_rows d b (length rows)

      pub are_outs : IsStrictOutput d rows outs
      are_outs =
          let at = seen d of.columns b in
          let table = table_is d s of well rows b strict in
          let is : IsOutput s rows outs = record {
            some = (at, table);
            each = λ a other. sym (rows_are d s of well rows b strict) ∙ each_same (output_row s at) (output_row s a) 0 (length rows) (λ t h. inputs_agree s well rows at a table other (length s.nodes - 1) t (omega (arith, h)));
          } in
          output_back d s rows outs b of well strict is

      pub is_over : (cycles ones : ℕ) → AreRunCounts s p rows cycles ones → IsFirstAtCap (marking (links_of s) p) (cap_of (links_of s) (length rows)) no_hold (sink_of (links_of s)) cycles
      is_over cycles ones counts = (counts life free refl refl).0.ends

      pub ones_are : (cycles ones : ℕ) → AreRunCounts s p rows cycles ones → ones ≡ ones_of outs
      ones_are cycles ones counts =
          let told = counts life free refl refl in
          let all = told.0.ends.reached ∙ cap_of_sink s (length rows) well.least in
          told.1 ∙ ap (λ n. ones_of (from_each (output_row s (seen d of.columns b)) 0 n)) all ∙ ap ones_of (rows_are d s of well rows b strict)
