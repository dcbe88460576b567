-- What `wave` and `unwave` write.
use Rattle.std.specs.Prelude.{◌≡◌, ℕ, min, Bool, List, length}
use Rattle.lid_design.specs.declared.Design.{Design}
use Rattle.lid_design.specs.Network.{Table, IsStrict}
use Rattle.lid_design.specs.Columns.{Column, drivers}
use Rattle.lid_graph.specs.Firings.{no_hold, IsFirstAtCap}
use Rattle.lid_stations.specs.declared.placement.Placement.{Placement}
use Rattle.lid_stations.specs.Placements.{Links}
use Rattle.lid_stations.specs.Markings.{marking}
use Rattle.lid_shell_laws.specs.Runs.{cap_of, sink_of}
use Rattle.lid_vcd_form.specs.Text.{wave_text}
use Rattle.lid_top_script.specs.Clocked.{trace_of}

-- `wave` writes the trace of the clocked run, of so many cycles or as far as the run has them, as a value change dump.
-- The tokens are those of a strict table
pub record IsWaveText (d : Design) (l : Links) (p : Placement) (rows : List (List Bool)) (most : ℕ) (text : List ℕ) : Type 0 where
  pub table : Table Column
  pub strict : IsStrict (drivers d) rows table
  pub cycles : ℕ
  pub ends : IsFirstAtCap (marking l p) (cap_of l (length rows)) no_hold (sink_of l) cycles
  pub written : text ≡ wave_text (trace_of d table l p (length rows) (min most cycles))
