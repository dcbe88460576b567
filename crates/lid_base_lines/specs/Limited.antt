-- Why the lines of a text that is read as a whole are not given.
use Rattle.std.specs.Prelude.{ℕ, nat_lt, if◌then◌else◌, List, length, option_and_then, Option, Some, None}
use Rattle.lid_base.specs.declared.line.TextFault.{TextFault}
use Rattle.lid_base.specs.declared.line.TextFault.TheVariants as text
use Rattle.lid_base.specs.Lines.{text_fault}
use Rattle.lid_base_lines.specs.declared.limited.LinesFault.{LinesFault}
use Rattle.lid_base_lines.specs.declared.limited.LinesFault.TheVariants.{TooLong, Word}

-- a fault of the lines is told at its line; want of memory is none
abbrev pub fault_of_text : TextFault → Option LinesFault
fault_of_text (text.BadByte line) = Some (Word line)
fault_of_text (text.NameTooLong line) = Some (Word line)
fault_of_text text.Memory = None

-- the text is too long, or a line of it is at fault
unfoldable pub limited_fault : List ℕ → Option LinesFault
limited_fault bytes =
    if nat_lt 16777216 (length bytes) then Some (TooLong (length bytes)) else option_and_then fault_of_text (text_fault 1024 bytes)
