-- The canonical text of a design, line by line.
use Rattle.std.specs.Prelude.{ℕ, zero, suc, ◌/◌, ◌==◌, Bool, if◌then◌else◌, List, [], ◌∷◌, ◌++◌, map, codes, Option, Some, None}
use Rattle.std.specs.List.{flat_map}
use Rattle.lid_cover.specs.declared.Cube.{Cube}
use Rattle.lid_cover.specs.Cover.{lowest_bit}
use Rattle.lid_design.specs.declared.Design.{Design}
use Rattle.lid_design.specs.declared.Model.{Model}
use Rattle.lid_design.specs.declared.Cell.{Cell}
use Rattle.lid_design.specs.declared.Cell.TheVariants.{Names, Latch}
use Rattle.lid_design.specs.declared.LatchKind.{LatchKind}
use Rattle.lid_design.specs.declared.LatchKind.TheVariants.{Plain, Rise, Fall}
use Rattle.lid_design.specs.declared.Init.{Init}
use Rattle.lid_design.specs.declared.Init.TheVariants.{Zero, One, DontCare, Unknown}
use Rattle.lid_design.specs.declared.Inst.{Inst}
use Rattle.lid_design.specs.declared.Bind.{Bind}
use Rattle.lid_base_lines.specs.Texts.{Words, lines_text}

-- the names after their keyword, where there are names
abbrev pub listed : List ℕ → List (List ℕ) → List Words
listed keyword [] = []
listed keyword (name ∷ names) = (keyword ∷ name ∷ names) ∷ []

-- what a row asks of an input: nothing, or a value
abbrev pub character : ℕ → ℕ → ℕ
character care value = if lowest_bit care then (if lowest_bit value then 49 else 48) else 45

-- a character for each of so many inputs, from bit 0 on
abbrev pub characters : ℕ → ℕ → ℕ → List ℕ
characters zero care value = []
characters (suc inputs) care value = character care value ∷ characters inputs (care / 2) (value / 2)

-- the output of each row of a cover
abbrev pub output_word : Bool → List ℕ
output_word on = if on then codes "1" else codes "0"

-- a row of a cover
abbrev pub cube_line : ℕ → Bool → Cube → Words
cube_line inputs on cube =
    if inputs == 0 then output_word on ∷ [] else characters inputs cube.care cube.value ∷ output_word on ∷ []

-- a latch without a control has the control `NIL`
abbrev pub control_word : Option (List ℕ) → List ℕ
control_word None = codes "NIL"
control_word (Some name) = name

-- the type and the control of a latch
abbrev pub kind_words : LatchKind → Option (List ℕ) → Words
kind_words Plain control = []
kind_words Rise control = codes "re" ∷ control_word control ∷ []
kind_words Fall control = codes "fe" ∷ control_word control ∷ []

abbrev pub init_word : Init → List ℕ
init_word Zero = codes "0"
init_word One = codes "1"
init_word DontCare = codes "2"
init_word Unknown = codes "3"

-- the lines of a cell
abbrev pub cell_lines : Cell → List Words
cell_lines (Names inputs out cover) = (codes ".names" ∷ inputs ++ out ∷ []) ∷ map (cube_line cover.inputs cover.on) cover.cubes
cell_lines (Latch input out kind control init) = (codes ".latch" ∷ input ∷ out ∷ kind_words kind control ++ init_word init ∷ []) ∷ []

-- a binding as one word
abbrev pub bind_word : Bind → List ℕ
bind_word bind = bind.formal ++ 61 ∷ bind.actual

abbrev pub inst_line : Inst → Words
inst_line inst = codes ".subckt" ∷ inst.model ∷ map bind_word inst.binds

-- the lines of a model after its first
abbrev pub body_lines : Model → List Words
body_lines m =
    listed (codes ".inputs") m.inputs
    ++ (listed (codes ".outputs") m.outputs ++ (listed (codes ".clock") m.clocks ++ (flat_map cell_lines m.cells ++ (map inst_line m.insts ++ (codes ".end" ∷ []) ∷ []))))

abbrev pub model_lines : Model → List Words
model_lines m = (codes ".model" ∷ m.name ∷ []) ∷ body_lines m

-- the lines of models, in order
abbrev pub models_lines : List Model → List Words
models_lines models = flat_map model_lines models

-- the canonical text of a design
unfoldable pub canonical_text : Design → List ℕ
canonical_text d = lines_text (models_lines d.models)
