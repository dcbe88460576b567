-- The design that logical lines stand for. It is told of any lines; of lines without fault it is
-- what the text means.
use Rattle.std.specs.Prelude.{◌≡◌, ℕ, ◌+◌, ◌*◌, ◌≤◌, ◌==◌, Bool, not, if◌then◌else◌, List, [], ◌∷◌, map, filter, take, drop, bytes_eq, codes, Option, Some, None}
use Rattle.std.specs.List.{list_any, flat_map, before_first, after_first}
use Rattle.lid_base.specs.declared.line.Line.{Line}
use Rattle.lid_cover.specs.declared.Cover.{Cover}
use Rattle.lid_cover.specs.declared.Cube.{Cube}
use Rattle.lid_design.specs.declared.Design.{Design}
use Rattle.lid_design.specs.declared.Model.{Model as ModelOf}
use Rattle.lid_design.specs.declared.Cell.{Cell}
use Rattle.lid_design.specs.declared.Cell.TheVariants.{Names as NamesCell, Latch as LatchCell}
use Rattle.lid_design.specs.declared.LatchKind.{LatchKind}
use Rattle.lid_design.specs.declared.LatchKind.TheVariants.{Plain, Rise, Fall}
use Rattle.lid_design.specs.declared.Init.{Init}
use Rattle.lid_design.specs.declared.Init.TheVariants.{Zero, One, DontCare, Unknown as UnknownInit}
use Rattle.lid_design.specs.declared.Inst.{Inst}
use Rattle.lid_design.specs.declared.Bind.{Bind}
use Rattle.lid_blif.specs.declared.keyword.Keyword.{Keyword}
use Rattle.lid_blif.specs.declared.keyword.Keyword.TheVariants.{Model, Inputs, Outputs, Clock, Names, Latch, Subckt, Row}
use Rattle.lid_base.specs.Words.{word_at, last_word}
use Rattle.lid_blif.specs.Words.{keyword_of, is_line, leading, is_inner, inputs_of, is_zero, is_one, has_type, has_init, is_equals}
use Rattle.lid_blif.specs.Faults.{ends_in_zero}

-- the mask whose bit j is the entry j
abbrev pub mask_of : List Bool → ℕ
mask_of [] = 0
mask_of (bit ∷ bits) = 2 * mask_of bits + (if bit then 1 else 0)

-- a row looks at the inputs that are not `-`
abbrev pub is_cared_for : ℕ → Bool
is_cared_for character = not (character == 45)

abbrev pub is_character_one : ℕ → Bool
is_character_one character = character == 49

-- a row of a cover with so many inputs
abbrev pub cube_of : ℕ → Line → Cube
cube_of inputs row =
    let characters = take inputs (word_at row.words 0) in
    record { care = mask_of (map is_cared_for characters); value = mask_of (map is_character_one characters) }

-- the cover of a `.names` line with these rows
abbrev pub cover_of : List (List ℕ) → List Line → Cover
cover_of words rows =
    record { inputs = inputs_of words; on = not (list_any ends_in_zero rows); cubes = map (cube_of (inputs_of words)) rows }

-- a line with at most 64 inputs, where it is a cover line: more are refused
abbrev pub IsNarrow : Line → Type 0
IsNarrow l = Names ≡ keyword_of l.words → inputs_of l.words ≤ 64

-- the cell of a `.names` line
abbrev pub names_cell : List (List ℕ) → List Line → Cell
names_cell words rows = NamesCell (take (inputs_of words) (drop 1 words)) (last_word words) (cover_of words rows)

abbrev pub kind_named : List ℕ → LatchKind
kind_named word = if bytes_eq word (codes "re") then Rise else Fall

-- `NIL` is no control
abbrev pub control_named : List ℕ → Option (List ℕ)
control_named word = if bytes_eq word (codes "NIL") then None else Some word

abbrev pub init_named : List ℕ → Init
init_named word =
    if is_zero word then Zero else if is_one word then One else if bytes_eq word (codes "2") then DontCare else UnknownInit

abbrev pub kind_of : List (List ℕ) → LatchKind
kind_of words = if has_type words then kind_named (word_at words 3) else Plain

abbrev pub control_of : List (List ℕ) → Option (List ℕ)
control_of words = if has_type words then control_named (word_at words 4) else None

abbrev pub init_of : List (List ℕ) → Init
init_of words = if has_init words then init_named (last_word words) else UnknownInit

-- the cell of a `.latch` line
abbrev pub latch_cell : List (List ℕ) → Cell
latch_cell words = LatchCell (word_at words 1) (word_at words 2) (kind_of words) (control_of words) (init_of words)

-- a binding is split at its first `=`
abbrev pub bind_of : List ℕ → Bind
bind_of word = record { formal = before_first is_equals word; actual = after_first is_equals word }

-- the instance of a `.subckt` line
abbrev pub inst_of : Line → Inst
inst_of line = record { model = word_at line.words 1; binds = map bind_of (drop 2 line.words) }

-- a cell of the line, before the cells of the lines after it
abbrev pub cell_before : Keyword → List (List ℕ) → List Line → List Cell → List Cell
cell_before Names words later cells = names_cell words (leading (is_line Row) later) ∷ cells
cell_before Latch words later cells = latch_cell words ∷ cells
cell_before _ words later cells = cells

-- the cells of a model's lines: a `.names` line has the rows that follow it
abbrev pub cells_of : List Line → List Cell
cells_of [] = []
cells_of (l ∷ ls) = cell_before (keyword_of l.words) l.words ls (cells_of ls)

-- the instances of a model's lines
abbrev pub insts_of : List Line → List Inst
insts_of ls = map inst_of (filter (is_line Subckt) ls)

-- the names that the lines of one kind list, joined in order
abbrev pub names_of : Keyword → List Line → List (List ℕ)
names_of keyword ls = flat_map (λ l. drop 1 l.words) (filter (is_line keyword) ls)

-- the model of a name with these lines
unfoldable pub model_of : List ℕ → List Line → ModelOf
model_of name body = record {
  name = name;
  inputs = names_of Inputs body;
  outputs = names_of Outputs body;
  clocks = names_of Clock body;
  cells = cells_of body;
  insts = insts_of body;
}

-- the models: each `.model` line with the lines up to the next
abbrev pub models_of : List Line → List ModelOf
models_of [] = []
models_of (l ∷ ls) =
    if is_line Model l then model_of (word_at l.words 1) (leading is_inner ls) ∷ models_of ls else models_of ls

-- the design of some lines; its root is the first model
unfoldable pub design_of : List Line → Design
design_of ls = record { models = models_of ls; root = 0 }
