-- The designs that have a canonical text. Each of its words has at most 1,024 bytes.
use Rattle.std.specs.Prelude.{◌≡◌, ℕ, ◌<◌, ◌≤◌, true, false, List, [], length, map, bytes_eq, codes, Option, None, IfSome}
use Rattle.std.specs.List.{AllByRecursion, IsDistinct, sum_by}
use Rattle.lid_base.specs.Lines.{ends_in_mark}
use Rattle.lid_cover.specs.Cover.{IsCover}
use Rattle.lid_cover.specs.declared.Cover.{Cover}
use Rattle.lid_design.specs.declared.Design.{Design}
use Rattle.lid_design.specs.declared.Model.{Model}
use Rattle.lid_design.specs.declared.Cell.{Cell}
use Rattle.lid_design.specs.declared.Cell.TheVariants.{Names, Latch}
use Rattle.lid_design.specs.declared.LatchKind.{LatchKind}
use Rattle.lid_design.specs.declared.LatchKind.TheVariants.{Plain}
use Rattle.lid_design.specs.declared.Inst.{Inst}
use Rattle.lid_design.specs.declared.Bind.{Bind}
use Rattle.lid_base_lines.specs.Spelled.{IsSpelled}
use Rattle.lid_blif.specs.Words.{is_equals}
use Rattle.lid_design.specs.WellFormed.{model_name}
use Rattle.lid_blifout.specs.Canonical.{bind_word, canonical_text}

-- a cover that is read back: one without rows is read as `on`
pub record IsWritableCover (inputs : List (List ℕ)) (out : List ℕ) (cover : Cover) : Type 0 where
  pub names : AllByRecursion (IsSpelled 1024) inputs
  pub driven : IsSpelled 1024 out
  pub rules : IsCover cover
  pub count : cover.inputs ≡ length inputs
  pub constant : cover.cubes ≡ [] → cover.on ≡ true

-- a name that stands for a control: `NIL` stands for none
pub record IsControl (name : List ℕ) : Type 0 where
  pub spelled : IsSpelled 1024 name
  pub named : bytes_eq name (codes "NIL") ≡ false

-- a latch that is read back: one without a type has no control
pub record IsWritableLatch (input out : List ℕ) (kind : LatchKind) (control : Option (List ℕ)) : Type 0 where
  pub reads : IsSpelled 1024 input
  pub driven : IsSpelled 1024 out
  pub controlled : IfSome control IsControl
  pub plain : kind ≡ Plain → control ≡ None

abbrev pub IsWritableCell : Cell → Type 0
IsWritableCell (Names inputs out cover) = IsWritableCover inputs out cover
IsWritableCell (Latch input out kind control init) = IsWritableLatch input out kind control

-- a binding that is read back: it is split at its first `=`
pub record IsWritableBind (bind : Bind) : Type 0 where
  pub formal : IsSpelled 1024 bind.formal
  pub actual : IsSpelled 1024 bind.actual
  pub split : AllByRecursion (λ b. is_equals b ≡ false) bind.formal
  pub short : length (bind_word bind) ≤ 1024
  pub unmarked : ends_in_mark (bind_word bind) ≡ false

pub record IsWritableInst (inst : Inst) : Type 0 where
  pub model : IsSpelled 1024 inst.model
  pub binds : AllByRecursion IsWritableBind inst.binds

pub record IsWritableModel (m : Model) : Type 0 where
  pub name : IsSpelled 1024 m.name
  pub inputs : AllByRecursion (IsSpelled 1024) m.inputs
  pub outputs : AllByRecursion (IsSpelled 1024) m.outputs
  pub clocks : AllByRecursion (IsSpelled 1024) m.clocks
  pub cells : AllByRecursion IsWritableCell m.cells
  pub insts : AllByRecursion IsWritableInst m.insts

-- the rows of a cell
abbrev pub cell_rows : Cell → ℕ
cell_rows (Names inputs out cover) = length cover.cubes
cell_rows (Latch input out kind control init) = 0

abbrev pub cells_rows : List Cell → ℕ
cells_rows cells = sum_by cell_rows cells

abbrev pub model_rows : Model → ℕ
model_rows m = cells_rows m.cells

-- a design that its canonical text gives back
pub record IsWritable (d : Design) : Type 0 where
  pub rooted : d.root ≡ 0
  pub some : 0 < length d.models
  pub distinct : IsDistinct bytes_eq (map model_name d.models)
  pub models : AllByRecursion IsWritableModel d.models
  pub few_models : length d.models ≤ 4096
  pub few_rows : sum_by model_rows d.models ≤ 1048576
  pub short : length (canonical_text d) ≤ 16777216

-- no formal ends in `\`
abbrev pub HasPlainFormals : Design → Type 0
HasPlainFormals d = AllByRecursion (λ m. AllByRecursion (λ inst. AllByRecursion (λ bind. ends_in_mark bind.formal ≡ false) inst.binds) m.insts) d.models
