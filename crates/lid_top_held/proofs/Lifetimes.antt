-- The life of the system of a design for rows, in which nobody is held: its dump is that of the design.
use Rattle.std.proofs.Common.{◌≡◌, ℕ, ◌*◌, ◌<◌, ◌≤◌, ◌⊎◌, inl, inr, min, Bool, List, length, refl, sym, ◌∙◌, ap, arith}
use Rattle.std.specs.List.{AllByRecursion, flat_map}
use Rattle.std.proofs.lemmas.Bool.{cases_lt}
use Rattle.lid_base.specs.declared.runs.Shown.{Shown}
use Rattle.lid_design.specs.declared.Design.{Design}
use Rattle.lid_design.specs.Network.{Table, IsStrict}
use Rattle.lid_base.specs.Each.{from_each}
use Rattle.lid_design.specs.Columns.{Column, drivers, root_inputs}
use Rattle.lid_design.specs.Walks.{HasTable}
use Rattle.lid_graph.specs.declared.graph.Graph.{Graph}
use Rattle.lid_graph.specs.Firings.{Counts, no_hold, IsFirstAtCap}
use Rattle.lid_graph_laws.proofs.Rising.{first_at_cap}
use Rattle.lid_texts_runs.specs.declared.trace.Trace.{Trace}
use Rattle.lid_system.specs.declared.System.{System}
use Rattle.lid_system.specs.Systems.{IsWellFormed}
use Rattle.lid_net_law.specs.Agreement.{seen, IsSystemOf}
use Rattle.lid_net_law.proofs.Agreeing.{table_is}
use Rattle.lid_stations.specs.declared.placement.Placement.{Placement}
use Rattle.lid_stations.specs.Placements.{links_of, station_count, Fits}
use Rattle.lid_stations.specs.Stations.{actor_count, capacity}
use Rattle.lid_stations.specs.Markings.{marking}
use Rattle.lid_shell_laws.specs.Runs.{cap_of, token_of, fired_in, in_count, out_count}
use Rattle.lid_shell_laws.specs.Views.{shown_at}
use Rattle.lid_shell_laws.proofs.Caps.{cap_of_sink}
use Rattle.lid_shell_laws.proofs.Ending.{ends}
use Rattle.lid_vcd_form.specs.Text.{wave_text}
use Rattle.lid_vcd_form.specs.Writable.{IsWritable}
use Rattle.lid_clock.specs.Lives.{Life, fired_after, shown_after, sink}
use Rattle.lid_shell_laws.specs.Setups.{IsInputRow}
use Rattle.lid_clock.specs.Clocks.{IsFreeLife}
use Rattle.lid_clock.proofs.FreeLives.{sinks_few}
use Rattle.lid_top_script.specs.Clocked.{station_token, trace_cells, trace_of}
use Rattle.lid_top_script.specs.Waved.{IsWaveText}
use Rattle.lid_top_script.specs.Wrapped.{Wrapping}
use Rattle.lid_top_held.specs.Traces.{life_cells, cells_before, IsTraceOf, HasFreeLife, IsTraceOfAll}
use Rattle.lid_top_script.proofs.Tokens.{shown_same, token_same}
use Rattle.lid_top_held.proofs.Cells.{writable}
use Rattle.lid_base.proofs.Each.{each_same}
use Rattle.lid_base.proofs.Alls.{all_weaker}
use Rattle.lid_base.proofs.Lists.{flat_same}

-- rows as wide as the inputs of a design have the width of the source
pub wide_rows : (d : Design) (s : System) → IsSystemOf d s → (rows : List (List Bool)) → AllByRecursion (λ row. length row ≡ length (root_inputs d)) rows → AllByRecursion (IsInputRow s) rows
wide_rows d s of rows wide = all_weaker (λ row. length row ≡ length (root_inputs d)) (IsInputRow s) rows (λ row is columns here. is ∙ ap length (sym (of.source 0 columns here))) wide

module _ (d : Design) (s : System) (p : Placement) (of : IsSystemOf d s) (well : IsWellFormed s) (rows : List (List Bool)) (b : Table Column) (strict : IsStrict (drivers d) rows b) (fits : Fits s p) where
  abbrev life : Life
  life = record { setup = record { system = s; placement = p; input = rows; table = seen d of.columns b }; hold = no_hold }

  lives : length rows ≤ 1000000 → AllByRecursion (λ row. length row ≡ length (root_inputs d)) rows → IsFreeLife life rows
  lives few wide = record {
    rules = record {
      system = well;
      fits = fits;
      few = few;
      wide = wide_rows d s of rows wide;
      table = table_is d s of well rows b strict;
    };
    input = refl;
    nobody = λ k v. refl;
  }

  abbrev count : ℕ
  count = length rows

  cells_same : (k : ℕ) → life_cells life k ≡ trace_cells d b (links_of s) p count k
  cells_same k =
      let l = links_of s in
      let fired = fired_in l p count no_hold k in
      each_same (shown_after life k) (λ station. shown_at l p count fired station (station_token d b l p station)) 0 (station_count p.relays)
      (λ station h. shown_same (capacity p station) (in_count l p count fired station) (out_count l p fired station)
      (token_of s p (seen d of.columns b) station) (station_token d b l p station) (token_same d s of well b p station (out_count l p fired station)))

  cells_before_same : (k : ℕ) → cells_before life k ≡ flat_map (trace_cells d b (links_of s) p count) (from_each (λ j. j) 0 k)
  cells_before_same k = flat_same (life_cells life) (trace_cells d b (links_of s) p count) (from_each (λ j. j) 0 k) cells_same

  abbrev g : Graph
  g = marking (links_of s) p

  abbrev cap : Counts
  cap = cap_of (links_of s) count

  sink_cap : cap (sink life) ≡ count
  sink_cap = cap_of_sink s count well.least

  ended : (k : ℕ) × IsFirstAtCap g cap no_hold (sink life) k
  ended =
      let most = actor_count (links_of s) p * count in
      let found = first_at_cap g cap no_hold (sink life) most (ends s p well fits count most (omega arith) ∙ sym sink_cap) in
      (found.0, found.1)

  module _ (free : IsFreeLife life rows) (most : ℕ) (t : Trace) (is : IsTraceOf life most t) (k : ℕ) (first : IsFirstAtCap g cap no_hold (sink life) k) where
    at_end : fired_after life k (sink life) ≡ count
    at_end = first.reached ∙ sink_cap

    -- no cycle after the last one is in the trace
    within : t.cycles ≤ k
    within = by_order (cases_lt k t.cycles)
      where
        by_order : (k < t.cycles) ⊎ (t.cycles ≤ k) → t.cycles ≤ k
        by_order (inl less) = absurd (let below = is.needed k less in omega (arith, below, at_end))
        by_order (inr past) = past

    -- and all cycles are, where the trace has fewer than it may have
    all_there : t.cycles < most → k ≤ t.cycles
    all_there less =
        let rest = is.ended less in
        let few = sinks_few life free.rules t.cycles in
        let over : fired_after life t.cycles (sink life) ≡ count = omega (arith, rest, few) in
        first.first t.cycles (over ∙ sym sink_cap)

    cycles_are : t.cycles ≡ min most k
    cycles_are = by_order (cases_lt t.cycles most)
      where
        by_order : (t.cycles < most) ⊎ (most ≤ t.cycles) → t.cycles ≡ min most k
        by_order (inl less) = omega (arith, within, all_there less)
        by_order (inr past) = omega (arith, within, is.few)

    trace_is : t ≡ trace_of d b (links_of s) p count (min most k)
    trace_is =
        let told : ℕ → ℕ → List Shown → Trace = λ stations cycles cells. record { stations = stations; cycles = cycles; cells = cells } in
        ap (λ (n : ℕ). told n t.cycles t.cells) is.all
        ∙ ap (told (station_count p.relays) t.cycles) (is.shown ∙ cells_before_same t.cycles)
        ∙ ap (λ (n : ℕ). told (station_count p.relays) n (flat_map (trace_cells d b (links_of s) p count) (from_each (λ j. j) 0 n))) cycles_are

  dump_is : (most : ℕ) (t : Trace) (text : List ℕ) → IsFreeLife life rows → IsTraceOf life most t → text ≡ wave_text t → IsWaveText d (links_of s) p rows most text
  dump_is most t text free is written = record {
    table = b;
    strict = strict;
    cycles = ended.0;
    ends = ended.1;
    written = written ∙ ap wave_text (trace_is free most t is ended.0 ended.1);
  }

-- a design whose columns have a table: its system has such a life, and what is told of each is told of it
module _ (d : Design) (s : System) (p : Placement) (of : IsSystemOf d s) (well : IsWellFormed s) (fits : Fits s p) (rows : List (List Bool)) (few : length rows ≤ 1000000) (wide : AllByRecursion (λ row. length row ≡ length (root_inputs d)) rows)
    (has : HasTable (drivers d)) where
  abbrev one : Life
  one = life d s p of well rows (has rows).0 (has rows).1 fits

  free : IsFreeLife one rows
  free = lives d s p of well rows (has rows).0 (has rows).1 fits few wide

  abbrev wrapping : Wrapping
  wrapping = record { design = d; system = s; placement = p }

  pub alive : HasFreeLife wrapping rows
  alive = (one, (free, refl, refl))

  module _ (most : ℕ) (t : Trace) (told : IsTraceOfAll wrapping rows most t) where
    pub trace_writable : most ≤ 1048576 → station_count p.relays * most ≤ 1048576 → IsWritable t
    trace_writable small cells = writable one free.rules most t (told one (free, refl, refl)) small cells

    pub dumped : (text : List ℕ) → text ≡ wave_text t → IsWaveText d (links_of s) p rows most text
    dumped text is = dump_is d s p of well rows (has rows).0 (has rows).1 fits most t text free (told one (free, refl, refl)) is
