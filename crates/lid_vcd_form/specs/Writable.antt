-- Which traces are written as dumps.
use Rattle.std.specs.Prelude.{◌≡◌, ◌*◌, ◌<◌, ◌≤◌, ◌^◌, max, false, length}
use Rattle.std.specs.List.{AllByRecursion}
use Rattle.lid_base.specs.declared.runs.Shown.{Shown}
use Rattle.lid_texts_runs.specs.declared.trace.Trace.{Trace}

-- a token lies below 2^31, and is 0 where the station is not valid
pub record IsCell (cell : Shown) : Type 0 where
  pub small : cell.token < 2 ^ 31
  pub void : cell.valid ≡ false → cell.token ≡ 0

-- a trace with all its cells, within the limits
pub record IsWritable (t : Trace) : Type 0 where
  pub whole : length t.cells ≡ t.stations * t.cycles
  pub few : max t.stations 1 * t.cycles ≤ 1048576
  pub stations : t.stations ≤ 65536
  pub cells : AllByRecursion IsCell t.cells
