-- What `clock` writes, said of the design alone: the output rows, and what the stations and nodes of its
-- system do.
use Rattle.std.specs.Prelude.{◌≡◌, ℕ, ◌+◌, ◌-◌, min, Bool, List, [], ◌++◌, length, map, slice_index_or, Option, Some, None}
use Rattle.std.specs.List.{flat_map}
use Rattle.lid_base.specs.declared.runs.Shown.{Shown}
use Rattle.lid_cover.specs.Masks.{packed}
use Rattle.lid_design.specs.declared.Design.{Design}
use Rattle.lid_design.specs.Network.{Table, IsStrict}
use Rattle.lid_base.specs.Each.{from_each}
use Rattle.lid_design.specs.Columns.{Column, column, drivers, root_outputs, IsStrictOutput}
use Rattle.lid_graph.specs.Firings.{Hold, no_hold, IsFirstAtCap}
use Rattle.lid_net_law.specs.Ports.{ports_of}
use Rattle.lid_system.specs.declared.Channel.{Channel}
use Rattle.lid_stations.specs.declared.placement.Placement.{Placement}
use Rattle.lid_stations.specs.Placements.{Links, station_count}
use Rattle.lid_stations.specs.Stations.{spot_at, channel_at}
use Rattle.lid_stations.specs.Markings.{marking}
use Rattle.lid_shell_laws.specs.Runs.{cap_of, sink_of, fired_in, IsWithinLag}
use Rattle.lid_clock_laws.specs.Bounds.{HasBound}
use Rattle.lid_shell_laws.specs.Views.{shown_at}
use Rattle.lid_stall_text.specs.declared.stalls.Stall.{Stall}
use Rattle.lid_stall_text.specs.Holds.{hold_of, stalled_of, stalled_line}
use Rattle.lid_texts.specs.RowsText.{rows_text}
use Rattle.lid_texts_runs.specs.declared.trace.Trace.{Trace}
use Rattle.lid_texts_runs.specs.Runs.{cycles_text, trace_text}

-- the token of row t on a channel: bit j is that of the column of its j-th port
abbrev pub channel_token : Design → Table Column → Channel → ℕ → ℕ
channel_token d b c t = packed (map (λ port. b t (slice_index_or (ports_of d c.from) port (column [] []))) c.ports)

-- token number i of a station: the token of row i of its channel
abbrev pub station_token : Design → Table Column → Links → Placement → ℕ → ℕ → ℕ
station_token d b l p station i = channel_token d b (channel_at l (spot_at p.relays station).channel) i

-- what the stations show as cycle k begins, in order, under a hold
abbrev pub cells_under : Design → Table Column → Links → Placement → ℕ → Hold → ℕ → List Shown
cells_under d b l p rows held k = from_each (λ station. shown_at l p rows (fired_in l p rows held k) station (station_token d b l p station)) 0 (station_count p.relays)

-- what they show in so many cycles
abbrev pub trace_under : Design → Table Column → Links → Placement → ℕ → Hold → ℕ → Trace
trace_under d b l p rows held cycles = record {
  stations = station_count p.relays;
  cycles = cycles;
  cells = flat_map (cells_under d b l p rows held) (from_each (λ k. k) 0 cycles);
}

-- the same where nobody is held
abbrev pub trace_cells : Design → Table Column → Links → Placement → ℕ → ℕ → List Shown
trace_cells d b l p rows k = cells_under d b l p rows no_hold k

abbrev pub trace_of : Design → Table Column → Links → Placement → ℕ → ℕ → Trace
trace_of d b l p rows cycles = trace_under d b l p rows no_hold cycles

-- how often each node has fired after so many cycles
abbrev pub nodes_fired : Links → Placement → ℕ → Hold → ℕ → List ℕ
nodes_fired l p rows held cycles = from_each (fired_in l p rows held cycles) 0 l.nodes

-- the trace of the cycles that it is asked for, as far as the run has them
abbrev pub traced : Design → Table Column → Links → Placement → ℕ → Hold → ℕ → Option ℕ → List ℕ
traced d b l p rows held cycles None = []
traced d b l p rows held cycles (Some most) = trace_text (trace_under d b l p rows held (min most cycles))

-- how many of its rows a clocked run asks for: before each cycle, up to the last, the row after the one that the source
-- puts next; so all of them, but where the sink has fired for each row before the source has put them
pub record AsksFor (l : Links) (p : Placement) (rows : ℕ) (stalls : Option (List Stall)) (asked : ℕ) : Type 0 where
  pub cycles : ℕ
  pub ends : IsFirstAtCap (marking l p) (cap_of l rows) (hold_of stalls (sink_of l)) (sink_of l) cycles
  pub asked_is : asked ≡ min rows (fired_in l p rows (hold_of stalls (sink_of l)) (cycles - 1) 0 + 2)

-- how `clock` ends: in how many cycles the sink has fired once for each row, how often the nodes have fired then, in
-- how many cycles somebody was held, where stalls are given, and the trace
abbrev pub clock_end : Design → Table Column → Links → Placement → ℕ → Option (List Stall) → Option ℕ → ℕ → List ℕ
clock_end d b l p rows stalls trace cycles =
    cycles_text cycles (nodes_fired l p rows (hold_of stalls (sink_of l)) cycles)
    ++ (stalled_line stalls cycles ++ traced d b l p rows (hold_of stalls (sink_of l)) cycles trace)

-- `clock` writes the strict output rows, and how the run ends: that of the least number of cycles after which the sink
-- has fired once for each row. The cycles, less those in which stalls hold somebody, are within the bound, which there is. The tokens
-- are those of a strict table; every one gives the rows
pub record IsClockText (d : Design) (l : Links) (p : Placement) (rows : List (List Bool)) (stalls : Option (List Stall)) (trace : Option ℕ) (text : List ℕ) : Type 0 where
  pub table : Table Column
  pub strict : IsStrict (drivers d) rows table
  pub outs : List (List Bool)
  pub are_outs : IsStrictOutput d rows outs
  pub cycles : ℕ
  pub ends : IsFirstAtCap (marking l p) (cap_of l (length rows)) (hold_of stalls (sink_of l)) (sink_of l) cycles
  pub within : IsWithinLag l p (length rows) (cycles - stalled_of stalls cycles)
  pub bound : HasBound l p (length rows) (cycles - stalled_of stalls cycles)
  pub written : text ≡ rows_text (root_outputs d) outs ++ clock_end d table l p (length rows) stalls trace cycles
