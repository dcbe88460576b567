-- What is left of a text where a first line or a first word was cut off.
use Rattle.std.specs.Prelude.{ℕ, List, [], Option, Some, None}
use Rattle.std.specs.List.{slice_split}
use Rattle.lid_base.specs.Lines.{is_newline}

-- the physical lines of what is left, which is nothing where the text had no further newline
abbrev pub lines_left : Option (List ℕ) → List (List ℕ)
lines_left None = []
lines_left (Some rest) = slice_split is_newline rest
