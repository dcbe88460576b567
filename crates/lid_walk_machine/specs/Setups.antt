-- Setups: all that a run along a schedule depends on.
use Rattle.std.specs.Prelude.{ℕ, Bool, List, length}
use Rattle.lid_base.specs.Each.{from_each}
use Rattle.lid_system.specs.Streams.{output_row}
use Rattle.lid_stations.specs.Placements.{links_of}
use Rattle.lid_shell_laws.specs.Runs.{token_of}
use Rattle.lid_walk_machine.specs.Plans.{Plan}
use Rattle.lid_shell_laws.specs.Setups.{Setup}

-- its plan: the tokens are those of the table
abbrev pub plan : Setup → Plan
plan x = record {
  links = links_of x.system;
  placement = x.placement;
  rows = length x.input;
  token = token_of x.system x.placement x.table;
}

-- the first strict output rows, so many
abbrev pub output_rows : Setup → ℕ → List (List Bool)
output_rows x many = from_each (output_row x.system x.table) 0 many
