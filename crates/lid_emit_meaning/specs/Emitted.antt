-- What an emitted design is to the design that it was made from, and why there is none.
use Rattle.std.specs.Prelude.{◌≡◌, ◌⊎◌, ⊤, ℕ, nat_lt, if◌then◌else◌, Bool, List, [], ◌∷◌, Option, Some, None}
use Rattle.std.specs.List.{AllByRecursion}
use Rattle.lid_design.specs.declared.Design.{Design}
use Rattle.lid_design.specs.declared.Model.{Model}
use Rattle.lid_design.specs.declared.Cell.{Cell}
use Rattle.lid_design.specs.declared.Cell.TheVariants.{Names, Latch}
use Rattle.lid_design.specs.declared.LatchKind.TheVariants.{Plain}
use Rattle.lid_design.specs.declared.Init.TheVariants.{Zero, One}
use Rattle.std.specs.Prelude.{slice_get}
use Rattle.lid_design.specs.Network.{Table, IsStrict}
use Rattle.lid_design.specs.Columns.{Column, drivers, root_inputs, root_outputs}
use Rattle.lid_design.specs.WellFormed.{IsWellFormed}
use Rattle.lid_base_lines.specs.Spelled.{IsSpelled}
use Rattle.lid_blifout.specs.Writable.{IsWritable}
use Rattle.lid_check.specs.Acceptance.{IsAccepted}
use Rattle.lid_system.specs.declared.System.{System}
use Rattle.lid_system.specs.Systems as system
use Rattle.lid_net_law.specs.Agreement.{IsSystemOf}
use Rattle.lid_stations.specs.declared.placement.Placement.{Placement}
use Rattle.lid_stations.specs.Placements.{Links, Fits}
use Rattle.lid_emit_meaning.specs.declared.fault.EmitFault.{EmitFault}
use Rattle.lid_emit_meaning.specs.declared.fault.EmitFault.TheVariants.{NameTaken, TooBig}
use Rattle.lid_emit_meaning.specs.Ports.{input_names, output_names, taken_name}
use Rattle.lid_emit_meaning.specs.Runs.{face_of, RunsAs}
use Rattle.lid_emit_meaning.specs.Sizes.{size}

-- a system of a design with a placement that fits, where the names of the root and of its ports can be written
pub record CanBeEmitted (d : Design) (s : System) (p : Placement) : Type 0 where
  pub of : IsSystemOf d s
  pub system : system.IsWellFormed s
  pub fits : Fits s p
  pub name : (m : Model) → slice_get d.models d.root ≡ Some m → IsSpelled 1024 m.name
  pub inputs : AllByRecursion (IsSpelled 1024) (root_inputs d)
  pub outputs : AllByRecursion (IsSpelled 1024) (root_outputs d)

-- why no design is emitted: the first name that is taken, else a size over 16,384
abbrev pub fault_of : Option (List ℕ) → ℕ → Option EmitFault
fault_of (Some name) count = Some (NameTaken name)
fault_of None count = if nat_lt 16384 count then Some (TooBig count) else None

abbrev pub emit_fault : Design → Links → Placement → Option EmitFault
emit_fault d l p = fault_of (taken_name d) (size d l p)

-- a cover, or a latch that names no clock and begins with 0 or 1
abbrev pub IsPlainCell : Cell → Type 0
IsPlainCell (Names inputs out cover) = ⊤
IsPlainCell (Latch input out kind control init) = (kind ≡ Plain) × (control ≡ None) × ((init ≡ Zero) ⊎ (init ≡ One))

-- a design of one model with the root's name and ports, and the two inputs and two outputs of its environment, without
-- clocks and instances. It is accepted, can be written, and runs as the design
pub record IsEmitted (d : Design) (l : Links) (p : Placement) (e : Design) : Type 0 where
  pub model : Model
  pub one : e.models ≡ model ∷ []
  pub root : e.root ≡ 0
  pub name : (m : Model) → slice_get d.models d.root ≡ Some m → model.name ≡ m.name
  pub inputs : model.inputs ≡ input_names d
  pub outputs : model.outputs ≡ output_names d
  pub clocks : model.clocks ≡ []
  pub insts : model.insts ≡ []
  pub latches : AllByRecursion IsPlainCell model.cells
  pub formed : IsWellFormed e
  pub accepted : IsAccepted e
  pub writable : IsWritable e
  pub runs : (rows : List (List Bool)) (b : Table Column) → IsStrict (drivers e) rows b → RunsAs d l p rows (face_of (root_outputs d) b)
