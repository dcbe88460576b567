-- Stalls of the environment as a text: in which cycles source or sink are held.
use Rattle.std.specs.Prelude.{ℕ, ◌==◌, nat_lt, Bool, true, false, ◌&&◌, if◌then◌else◌, List, [], ◌∷◌, ◌++◌, length, codes, bytes_eq, option_and_then, Option, Some, None, Result, Ok, Err}
use Rattle.lid_base.specs.declared.line.Line.{Line}
use Rattle.lid_base.specs.declared.which.Which.TheVariants.{FileBytes}
use Rattle.lid_base.specs.Lines.{logical_lines}
use Rattle.lid_base.specs.Numbers.{number}
use Rattle.lid_base.specs.Words.{word_at}
use Rattle.lid_base_lines.specs.declared.limited.LinesFault.{LinesFault}
use Rattle.lid_base_lines.specs.declared.limited.LinesFault.TheVariants as limited
use Rattle.lid_base_lines.specs.Limited.{limited_fault}
use Rattle.lid_stall_text.specs.declared.stalls.Stall.{Stall}
use Rattle.lid_stall_text.specs.declared.stalls.StallFault.{StallFault}
use Rattle.lid_stall_text.specs.declared.stalls.StallFault.TheVariants.{Limit, Word, Order, Memory}

-- the first line: `lid-stalls 1`
abbrev pub is_header : List (List ℕ) → Bool
is_header words = (length words == 2) && (bytes_eq (word_at words 0) (codes "lid-stalls") && bytes_eq (word_at words 1) (codes "1"))

-- who is held: the source by `in`, the sink by `out`, or `both`
abbrev pub stall_by : List ℕ → ℕ → Option Stall
stall_by who cycle =
    if bytes_eq who (codes "in") then Some (record { cycle = cycle; source = true; sink = false })
    else if bytes_eq who (codes "out") then Some (record { cycle = cycle; source = false; sink = true })
    else if bytes_eq who (codes "both") then Some (record { cycle = cycle; source = true; sink = true })
    else None

-- a line `CYCLE WHO`
abbrev pub stall_of : List (List ℕ) → Option Stall
stall_of words = if length words == 2 then option_and_then (stall_by (word_at words 1)) (number (word_at words 0)) else None

-- whether a cycle comes after the last of some stalls
abbrev pub is_after : List Stall → ℕ → Bool
is_after [] cycle = true
is_after (stall ∷ []) cycle = nat_lt stall.cycle cycle
is_after (stall ∷ next ∷ stalls) cycle = is_after (next ∷ stalls) cycle

-- what is at fault in a line, where these stalls stand before it
abbrev pub line_fault : List Stall → ℕ → Option Stall → Option StallFault
line_fault done line None = Some (Word line)
line_fault done line (Some stall) = if is_after done stall.cycle then None else Some (Order line)

-- a stall after others
abbrev pub with_stall : List Stall → Option Stall → List Stall
with_stall done None = done
with_stall done (Some stall) = done ++ stall ∷ []

abbrev pub unless : Option StallFault → Result (List Stall) StallFault → Result (List Stall) StallFault
unless None later = later
unless (Some fault) later = Err fault

-- the stalls of lines, or the fault of the first that has one, where these stalls stand before them
abbrev pub lines_reading : List Stall → List Line → Result (List Stall) StallFault
lines_reading done [] = Ok done
lines_reading done (line ∷ lines) =
    unless (line_fault done line.number (stall_of line.words)) (lines_reading (with_stall done (stall_of line.words)) lines)

-- the stalls of all lines: the first is the header
abbrev pub all_reading : List Line → Result (List Stall) StallFault
all_reading [] = Err (Word 0)
all_reading (header ∷ lines) = if is_header header.words then lines_reading [] lines else Err (Word header.number)

-- how a fault of the lines is told
abbrev pub told : LinesFault → StallFault
told (limited.TooLong bytes) = Limit FileBytes bytes
told (limited.Word line) = Word line
told limited.Memory = Memory

abbrev pub text_reading : List Line → Option LinesFault → Result (List Stall) StallFault
text_reading lines None = all_reading lines
text_reading lines (Some fault) = Err (told fault)

-- the stalls that a text stands for, or its fault
unfoldable pub stalls_reading : List ℕ → Result (List Stall) StallFault
stalls_reading bytes = text_reading (logical_lines bytes) (limited_fault bytes)
