-- The trace that a dump stands for, within the limits.
use Rattle.std.specs.Prelude.{ℕ, ◌*◌, max, nat_lt, if◌then◌else◌, List, length, Result, Ok, Err}
use Rattle.lid_base.specs.declared.which.Which.TheVariants.{FileBytes, TraceCells}
use Rattle.lid_texts_runs.specs.declared.trace.Trace.{Trace}
use Rattle.lid_vcd_form.specs.Shows.{wave_of}
use Rattle.lid_vcd.specs.declared.reader.VcdFault.{VcdFault}
use Rattle.lid_vcd.specs.declared.reader.VcdFault.TheVariants.{Limit, Word}

-- how many cells a trace has, where one without stations counts as if it had one
abbrev pub cell_count : ℕ → ℕ → ℕ
cell_count stations cycles = max stations 1 * cycles

abbrev pub if_few : Trace → Result Trace VcdFault
if_few trace =
    if nat_lt 1048576 (cell_count trace.stations trace.cycles) then Err (Limit TraceCells (cell_count trace.stations trace.cycles)) else Ok trace

-- the number of cells is judged where the form is met
abbrev pub judged : Result Trace ℕ → Result Trace VcdFault
judged (Err line) = Err (Word line)
judged (Ok trace) = if_few trace

-- the trace that a text stands for, or its fault
unfoldable pub wave_reading : List ℕ → Result Trace VcdFault
wave_reading bytes = if nat_lt 67108864 (length bytes) then Err (Limit FileBytes (length bytes)) else judged (wave_of bytes)
