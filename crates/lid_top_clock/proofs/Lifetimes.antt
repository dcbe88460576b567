-- The life of the system of a design for rows, held as stalls say where they are given: its text is that of the design.
use Rattle.std.proofs.Common.{◌≡◌, ℕ, ◌≤◌, min, Bool, List, ◌++◌, length, Option, None, Some, refl, sym, ◌∙◌, ap}
use Rattle.std.specs.List.{AllByRecursion, flat_map}
use Rattle.lid_base.specs.declared.runs.Shown.{Shown}
use Rattle.lid_design.specs.declared.Design.{Design}
use Rattle.lid_design.specs.Network.{Table, IsStrict}
use Rattle.lid_base.specs.Each.{from_each}
use Rattle.lid_design.specs.Columns.{Column, drivers, root_inputs, root_outputs, output_rows}
use Rattle.lid_graph.specs.Firings.{Hold}
use Rattle.lid_stall_text.specs.declared.stalls.Stall.{Stall}
use Rattle.lid_stall_text.specs.Holds.{hold_of, stalled_line}
use Rattle.lid_system.specs.declared.System.{System}
use Rattle.lid_system.specs.Systems.{IsWellFormed}
use Rattle.lid_net_law.specs.Agreement.{seen, IsSystemOf}
use Rattle.lid_net_law.proofs.Agreeing.{table_is, rows_are}
use Rattle.lid_stations.specs.declared.placement.Placement.{Placement}
use Rattle.lid_stations.specs.Placements.{links_of, station_count, Fits}
use Rattle.lid_shell_laws.specs.Runs.{sink_of, token_of, fired_in, in_count, out_count}
use Rattle.lid_stations.specs.Stations.{capacity}
use Rattle.lid_shell_laws.specs.Views.{shown_at}
use Rattle.lid_clock.specs.Lives.{Life, shown_after}
use Rattle.lid_shell_laws.specs.Setups.{IsInputRow}
use Rattle.lid_texts.specs.RowsText.{rows_text}
use Rattle.lid_texts_runs.specs.Runs.{cycles_text, trace_text}
use Rattle.lid_top_clock.specs.RunTexts.{IsLifeOf, IsRunText, cells_after, end_text}
use Rattle.lid_top_clock.specs.RunTexts as run
use Rattle.lid_top_script.specs.Clocked.{station_token, cells_under, nodes_fired, traced, IsClockText}
use Rattle.lid_top_script.proofs.Tokens.{shown_same, token_same, are_outputs}
use Rattle.lid_base.proofs.Each.{each_same}
use Rattle.lid_base.proofs.Alls.{all_weaker}
use Rattle.lid_base.proofs.Lists.{flat_same}

module _ (d : Design) (s : System) (p : Placement) (of : IsSystemOf d s) (well : IsWellFormed s) (rows : List (List Bool)) (b : Table Column) (strict : IsStrict (drivers d) rows b) (stalls : Option (List Stall)) where
  abbrev held : Hold
  held = hold_of stalls (sink_of (links_of s))

  abbrev pub life : Life
  life = record { setup = record { system = s; placement = p; input = rows; table = seen d of.columns b }; hold = held }

  pub lives : Fits s p → length rows ≤ 1000000 → AllByRecursion (λ row. length row ≡ length (root_inputs d)) rows → IsLifeOf life s p stalls
  lives fits few wide = record {
    rules = record {
      system = well;
      fits = fits;
      few = few;
      wide = all_weaker (λ row. length row ≡ length (root_inputs d)) (IsInputRow s) rows (λ row is columns here. is ∙ ap length (sym (of.source 0 columns here))) wide;
      table = table_is d s of well rows b strict;
    };
    of = refl;
    stations = refl;
    held = refl;
  }

  abbrev count : ℕ
  count = length rows

  cells_same : (k : ℕ) → run.life_cells life k ≡ cells_under d b (links_of s) p count held k
  cells_same k =
      let l = links_of s in
      let fired = fired_in l p count held k in
      each_same (shown_after life k) (λ station. shown_at l p count fired station (station_token d b l p station)) 0 (station_count p.relays)
      (λ station h. shown_same (capacity p station) (in_count l p count fired station) (out_count l p fired station)
      (token_of s p (seen d of.columns b) station) (station_token d b l p station) (token_same d s of well b p station (out_count l p fired station)))

  cells_after_same : (k : ℕ) → cells_after life k ≡ flat_map (cells_under d b (links_of s) p count held) (from_each (λ j. j) 0 k)
  cells_after_same k = flat_same (run.life_cells life) (cells_under d b (links_of s) p count held) (from_each (λ j. j) 0 k) cells_same

  traced_same : (trace : Option ℕ) (k : ℕ) → run.traced life trace k ≡ traced d b (links_of s) p count held k trace
  traced_same None k = refl
  traced_same (Some most) k =
      let told : List Shown → List ℕ = λ cells. trace_text (record { stations = station_count p.relays; cycles = min most k; cells = cells }) in
      ap told (cells_after_same (min most k))

  pub clock_text : (trace : Option ℕ) (text : List ℕ) → IsRunText life (root_outputs d) stalls trace text → IsClockText d (links_of s) p rows stalls trace text
  clock_text trace text is = record {
    table = b;
    strict = strict;
    outs = output_rows d b count;
    are_outs = are_outputs d s of well b rows strict;
    cycles = is.cycles;
    ends = is.ends;
    within = is.within;
    bound = is.bound;
    written =
        is.written
        ∙ ap (λ outs. rows_text (root_outputs d) outs ++ end_text life stalls trace is.cycles) (rows_are d s of well rows b strict)
        ∙ ap (λ told. rows_text (root_outputs d) (output_rows d b count) ++ (cycles_text is.cycles (nodes_fired (links_of s) p count held is.cycles) ++ (stalled_line stalls is.cycles ++ told))) (traced_same trace is.cycles);
  }
