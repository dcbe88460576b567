-- Stations and wires as texts: the placement that a text stands for, or its fault, as a function of the
-- system and the whole text.
use Rattle.std.specs.Prelude.{ℕ, nat_lt, Bool, if◌then◌else◌, List, [], ◌∷◌, ◌++◌, length, map, flat_map, Option, Some, None, Result, Ok, Err}
use Rattle.std.specs.Option.{option_map_or}
use Rattle.lid_base.specs.declared.line.Line.{Line}
use Rattle.lid_base.specs.declared.which.Which.TheVariants.{FileBytes}
use Rattle.lid_base.specs.Lines.{logical_lines}
use Rattle.lid_base_lines.specs.declared.limited.LinesFault.{LinesFault}
use Rattle.lid_base_lines.specs.declared.limited.LinesFault.TheVariants as limited
use Rattle.lid_base_lines.specs.Limited.{limited_fault}
use Rattle.lid_base.specs.Each.{from_each}
use Rattle.lid_stations.specs.declared.placement.Placement.{Placement}
use Rattle.lid_stations.specs.Placements.{Links, station_count}
use Rattle.lid_stations_text.specs.declared.form.Kind.{Kind}
use Rattle.lid_stations_text.specs.declared.form.Kind.TheVariants.{Stations, Wires}
use Rattle.lid_stations_text.specs.declared.form.Form.{Form}
use Rattle.lid_stations_text.specs.declared.fault.PlaceFault.{PlaceFault}
use Rattle.lid_stations_text.specs.declared.fault.PlaceFault.TheVariants.{Word, TotalLimit, Limit, Memory}
use Rattle.lid_stations_text.specs.Forms.{form_by, relays_of, caps_of}
use Rattle.lid_stations_text.specs.Faults.{or_else, line_fault, is_of}

-- the fault of the first line that has one, where these lines stand before them
abbrev pub lines_fault : Links → Form → List Line → List Line → Option PlaceFault
lines_fault l form earlier [] = None
lines_fault l form earlier (line ∷ lines) = or_else (line_fault l form earlier line) (lines_fault l form (earlier ++ line ∷ []) lines)

-- the first line that passes a test
abbrev pub first_line : (Line → Bool) → List Line → Option Line
first_line test [] = None
first_line test (line ∷ lines) = if test line then Some line else first_line test lines

-- the line of a channel
abbrev pub line_of : Links → List Line → ℕ → Option Line
line_of l lines c = first_line (is_of l c) lines

-- the relay stations of a channel: none, where no line names it
abbrev pub relays_on : Links → Form → List Line → ℕ → ℕ
relays_on l form lines c = option_map_or (λ line. relays_of form line.words) (line_of l lines c) 0

-- the capacities of a channel: 2 for its one station, where no line names it
abbrev pub caps_on : Links → Form → List Line → ℕ → List ℕ
caps_on l form lines c = option_map_or (λ line. caps_of form line.words) (line_of l lines c) (2 ∷ [])

-- the placement that lines of such a form stand for
unfoldable pub placement_of : Links → Form → List Line → Placement
placement_of l form lines = record {
  relays = map (relays_on l form lines) (from_each (λ c. c) 0 (length l.channels));
  caps = flat_map (caps_on l form lines) (from_each (λ c. c) 0 (length l.channels));
}

-- a placement, unless its stations are too many
abbrev pub whole : Placement → Result Placement PlaceFault
whole p = if nat_lt 65536 (station_count p.relays) then Err (TotalLimit (station_count p.relays)) else Ok p

abbrev pub unless : Option PlaceFault → Result Placement PlaceFault → Result Placement PlaceFault
unless None later = later
unless (Some fault) later = Err fault

-- the placement that lines of such a form stand for, or its fault
abbrev pub rows_reading : Links → Form → List Line → Result Placement PlaceFault
rows_reading l form lines = unless (lines_fault l form [] lines) (whole (placement_of l form lines))

-- the placement of the lines after the header, which has the number `header`
abbrev pub form_reading : Links → ℕ → List Line → Option Form → Result Placement PlaceFault
form_reading l header lines None = Err (Word header)
form_reading l header lines (Some form) = rows_reading l form lines

-- the placement of all lines: the first is the header
abbrev pub lines_reading : Links → Kind → List Line → Result Placement PlaceFault
lines_reading l kind [] = Err (Word 0)
lines_reading l kind (header ∷ lines) = form_reading l header.number lines (form_by kind header.words)

-- how a fault of the lines is told
abbrev pub told : LinesFault → PlaceFault
told (limited.TooLong bytes) = Limit FileBytes bytes
told (limited.Word line) = Word line
told limited.Memory = Memory

abbrev pub text_reading : Links → Kind → List Line → Option LinesFault → Result Placement PlaceFault
text_reading l kind lines None = lines_reading l kind lines
text_reading l kind lines (Some fault) = Err (told fault)

-- the placement that a text of such a kind stands for, or its fault
unfoldable pub reading : Links → Kind → List ℕ → Result Placement PlaceFault
reading l kind bytes = text_reading l kind (logical_lines bytes) (limited_fault bytes)

-- of a text of stations
abbrev pub stations_reading : Links → List ℕ → Result Placement PlaceFault
stations_reading l bytes = reading l Stations bytes

-- of a text of wires, where a relay station stands after each length of so much
abbrev pub wires_reading : ℕ → Links → List ℕ → Result Placement PlaceFault
wires_reading reach l bytes = reading l (Wires reach) bytes
