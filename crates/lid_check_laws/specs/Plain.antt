-- Plain facts about the lists of models from which it follows that a design is accepted. They are told of
-- designs without clock names, in which the models of the root's instances have no instances.
use Rattle.std.specs.Prelude.{◌≡◌, ℕ, ◌≤◌, ◌<◌, ◌+◌, true, ◌||◌, List, [], ◌++◌, length, map, flat_map, None, bytes_eq, ⊤}
use Rattle.std.specs.Option.{option_map_or}
use Rattle.std.specs.List.{IsDistinct}
use Rattle.lid_base.specs.Lists.{Among}
use Rattle.lid_cover.specs.declared.Cover.{Cover}
use Rattle.lid_design.specs.declared.Design.{Design}
use Rattle.lid_design.specs.declared.Model.{Model}
use Rattle.lid_design.specs.declared.Cell.{Cell}
use Rattle.lid_design.specs.declared.Cell.TheVariants.{Names, Latch}
use Rattle.lid_design.specs.declared.LatchKind.TheVariants.{Plain}
use Rattle.lid_design.specs.declared.Inst.{Inst}
use Rattle.lid_design.specs.Columns.{model_named}
use Rattle.lid_design.specs.Models.{cell_out, cell_reads, driven_by, actual_names, formals, is_buffer, is_constant}

-- a latch has no type and no control, so no cell makes a clock name
abbrev pub IsUnclocked : Cell → Type 0
IsUnclocked (Names inputs out cover) = ⊤
IsUnclocked (Latch input out kind control init) = (kind ≡ Plain) × (control ≡ None)

-- each name of the first list stands in the second
abbrev pub AreAmong : List (List ℕ) → List (List ℕ) → Type 0
AreAmong names others = (name : List ℕ) → Among name names → Among name others

-- the nets that a model without instances and clock names drives, once for each driver
abbrev pub pearl_drivers : Model → List (List ℕ)
pearl_drivers m = m.inputs ++ map cell_out m.cells

-- a model without instances and clock names, each net of which is driven once
pub record IsPlainPearl (m : Model) : Type 0 where
  pub insts : m.insts ≡ []
  pub clocks : m.clocks ≡ []
  pub cells : (cell : Cell) → Among cell m.cells → IsUnclocked cell
  pub outputs : IsDistinct bytes_eq m.outputs
  pub once : IsDistinct bytes_eq (pearl_drivers m)
  pub driven : AreAmong (flat_map cell_reads m.cells ++ m.outputs) (pearl_drivers m)

-- heights of nets, of which a net may have more than one. The output of each cover has a height, and
-- for each height of it each input of the cover has a lower one
pub record IsRising (heights : List (List ℕ × ℕ)) (m : Model) : Type 0 where
  pub some : (inputs : List (List ℕ)) (out : List ℕ) (cover : Cover) → Among (Names inputs out cover) m.cells → (h : ℕ) × Among (out, h) heights
  pub lower :
      (inputs : List (List ℕ)) (out : List ℕ) (cover : Cover) (net : List ℕ) (h : ℕ)
      → Among (Names inputs out cover) m.cells
      → Among net inputs
      → Among (out, h) heights
      → (low : ℕ) × (low < h) × Among (net, low) heights

-- a set of nets that holds the inputs of a model, with each input of a cover its output, and no output
-- of the model
pub record IsApart (late : List (List ℕ)) (m : Model) : Type 0 where
  pub inputs : AreAmong m.inputs late
  pub kept :
      (inputs : List (List ℕ)) (out : List ℕ) (cover : Cover) (net : List ℕ)
      → Among (Names inputs out cover) m.cells
      → Among net inputs
      → Among net late
      → Among out late
  pub outputs : (name : List ℕ) → Among name m.outputs → ¬ Among name late

-- no output of a model is an input of it
abbrev pub AreParted : Model → Type 0
AreParted m = (name : List ℕ) → Among name m.outputs → ¬ Among name m.inputs

-- an instance of a model without instances, each input of which is bound
pub record IsPlainInst (d : Design) (inst : Inst) (sub : Model) : Type 0 where
  pub there : Among sub d.models
  pub named : sub.name ≡ inst.model
  pub once : IsDistinct bytes_eq (formals inst)
  pub ports : AreAmong (formals inst) (sub.inputs ++ sub.outputs)
  pub bound : AreAmong sub.inputs (formals inst)
  pub pearl : IsPlainPearl sub

-- the nets that a root without clock names drives, once for each driver
abbrev pub root_drivers : Design → Model → List (List ℕ)
root_drivers d m = m.inputs ++ map cell_out m.cells ++ flat_map (driven_by d) m.insts

-- a root with instances and without clock names, each net of which is driven once; what is no instance
-- in it is a buffer or a constant
pub record IsPlainRoot (d : Design) (m : Model) : Type 0 where
  pub some : 0 < length m.insts
  pub few : length m.insts ≤ 4096
  pub clocks : m.clocks ≡ []
  pub logic : (cell : Cell) → Among cell m.cells → (is_buffer cell || is_constant cell) ≡ true
  pub outputs : IsDistinct bytes_eq m.outputs
  pub once : IsDistinct bytes_eq (root_drivers d m)
  pub driven : AreAmong (flat_map cell_reads m.cells ++ flat_map actual_names m.insts ++ m.outputs) (root_drivers d m)
  pub insts : (inst : Inst) → Among inst m.insts → (sub : Model) × IsPlainInst d inst sub

-- how many cells the model of an instance has
abbrev pub cells_below : Design → Inst → ℕ
cells_below d inst = option_map_or (λ m. length m.cells) (model_named d inst.model) 0

-- how many nets the model of an instance drives, once for each driver, where it has no instances
abbrev pub nets_below : Design → Inst → ℕ
nets_below d inst = option_map_or (λ m. length m.inputs + length m.cells) (model_named d inst.model) 0
