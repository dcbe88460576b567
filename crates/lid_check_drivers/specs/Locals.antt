-- What drives the nets of a model, told without a path.
use Rattle.std.specs.Prelude.{◌≡◌, ℕ, ◌+◌, Bool, if◌then◌else◌, List, [], ◌∷◌, ◌++◌, map, flat_map, slice_index_or, Option, Some, option_and_then, option_map, slice_get}
use Rattle.std.specs.Option.{option_map_or}
use Rattle.std.specs.List.{enumerate_from}
use Rattle.std.specs.Str.{bytes_eq}
use Rattle.lid_cover.specs.declared.Cover.{Cover}
use Rattle.lid_design.specs.declared.Design.{Design}
use Rattle.lid_design.specs.declared.Model.{Model}
use Rattle.lid_design.specs.declared.Cell.{Cell}
use Rattle.lid_design.specs.declared.Cell.TheVariants.{Names, Latch}
use Rattle.lid_design.specs.declared.Inst.{Inst}
use Rattle.lid_design.specs.declared.Bind.{Bind}
use Rattle.lid_design.specs.Network.{Driver, from_input, from_latch, from_cover, from_connection}
use Rattle.lid_design.specs.Columns.{Column, column, is_among, model_named, data_inputs, first_bit, drivers}
use Rattle.lid_design.specs.Models.{insts_of, number_from, data_inputs_of}

-- what drives a net inside its model; nets are told by their names, or by their places among the nets
pub data Local (N : Type 0) : Type 0 where
  local_input : ℕ → Local N  -- a data input of the model, by its place among them
  local_latch : Bool → N → Local N  -- a latch: the bit that it begins with, and its input
  local_cover : Cover → List N → Local N  -- a cover, and its inputs in order
  local_connection : ℕ → N → Local N  -- an instance by its number, and a net of the instance's model

-- a net, and what drives it
abbrev pub NetLocal : Type 0
NetLocal = List ℕ × Local (List ℕ)

abbrev pub inputs_from : ℕ → List (List ℕ) → List NetLocal
inputs_from k [] = []
inputs_from k (name ∷ names) = (name, local_input k) ∷ inputs_from (k + 1) names

abbrev pub local_of : Cell → NetLocal
local_of (Names inputs out cover) = (out, local_cover cover inputs)
local_of (Latch input out kind control init) = (out, local_latch (first_bit init) input)

-- a binding to an output formal drives its actual
abbrev pub output_driver : List (List ℕ) → ℕ → Bind → List NetLocal
output_driver outputs i b = if is_among b.formal outputs then (b.actual, local_connection i b.formal) ∷ [] else []

abbrev pub outputs_of : Design → ℕ × Inst → List NetLocal
outputs_of d p = option_map_or (λ m. flat_map (output_driver m.outputs p.0) p.1.binds) (model_named d p.1.model) []

-- what cells and instances drive
abbrev pub inner_locals : Design → Model → List NetLocal
inner_locals d m = map local_of m.cells ++ flat_map (outputs_of d) (enumerate_from 0 m.insts)

-- all that drives the nets of a model, in the order of inputs, cells and instances
unfoldable pub locals : Design → Model → List NetLocal
locals d m = inputs_from 0 (data_inputs d m) ++ inner_locals d m

-- what stands beside one name
abbrev pub values_of : {V : Type 0} → List ℕ → List (List ℕ × V) → List V
values_of net ps = flat_map (λ p. if bytes_eq p.0 net then p.1 ∷ [] else []) ps

-- what it is outside the model, where inputs, the nets of the model and those of its instances are told
-- in other words
abbrev pub resolved : {N C : Type 0} → (ℕ → Driver C) → (N → C) → (ℕ → N → C) → Local N → Driver C
resolved input own inner (local_input j) = input j
resolved input own inner (local_latch first net) = from_latch first (own net)
resolved input own inner (local_cover cover nets) = from_cover cover (map own nets)
resolved input own inner (local_connection i net) = from_connection (inner i net)

-- what it is at a path; an input is given at the root
abbrev pub driver_at_path : List ℕ → Local (List ℕ) → Driver Column
driver_at_path path = resolved from_input (column path) (λ i formal. column (i ∷ path) formal)

-- the formals of an instance, each with its actual
abbrev pub bound_pairs : Inst → List (List ℕ × List ℕ)
bound_pairs inst = map (λ b. (b.formal, b.actual)) inst.binds

-- the first of some names
abbrev pub first_name_of : List (List ℕ) → List ℕ
first_name_of [] = []
first_name_of (name ∷ names) = name

-- the net around an instance that a formal is bound to
abbrev pub actual_for : Inst → List ℕ → List ℕ
actual_for inst formal = first_name_of (values_of formal (bound_pairs inst))

-- what it is in instance i of the model at a path: an input is the net that it is bound to
abbrev pub driver_in : List ℕ → ℕ → Inst → List (List ℕ) → Local (List ℕ) → Driver Column
driver_in path i inst inputs = resolved (λ j. from_connection (column path (actual_for inst (slice_index_or inputs j [])))) (column (i ∷ path)) (λ j formal. column (j ∷ i ∷ path) formal)

-- what drives nets of the model of a number
abbrev pub model_locals : Design → ℕ → List NetLocal
model_locals d k = option_map_or (locals d) (slice_get d.models k) []

-- an instance of the model at a path
abbrev pub inst_at : Design → ℕ → List ℕ → Option Inst
inst_at d i path = option_and_then (λ k. slice_get (insts_of d k) i) (number_from d d.root path)

-- what it is at a path that leads to model k
abbrev pub driver_by_path : Design → ℕ → List ℕ → Local (List ℕ) → Option (Driver Column)
driver_by_path d k [] l = Some (driver_at_path [] l)
driver_by_path d k (i ∷ path) l = option_map (λ inst. driver_in path i inst (data_inputs_of d k) l) (inst_at d i path)

-- a column has exactly one driver, and it is that of its net in the model that its path leads to
pub record IsToldByModel (d : Design) (c : Column) : Type 0 where
  pub number : ℕ
  pub leads : number_from d d.root c.path ≡ Some number
  pub local : Local (List ℕ)
  pub alone : values_of c.net (model_locals d number) ≡ local ∷ []
  pub driver : Driver Column
  pub told : driver_by_path d number c.path local ≡ Some driver
  pub only : drivers d c ≡ driver ∷ []
