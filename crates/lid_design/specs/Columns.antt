-- The columns of a design, what drives each of them, and the strict tables of the design.
use Rattle.std.specs.Prelude.{◌≡◌, ℕ, zero, suc, ◌+◌, Bool, true, false, not, ◌&&◌, ◌||◌, if◌then◌else◌, List, [], ◌∷◌, ◌++◌, length, map, filter, find, Option, option_and_then, slice_get}
use Rattle.std.specs.Option.{option_map_or}
use Rattle.std.specs.List.{list_any, flat_map, enumerate_from}
use Rattle.std.specs.Str.{bytes_eq}
use Rattle.lid_design.specs.declared.Design.{Design}
use Rattle.lid_design.specs.declared.Model.{Model}
use Rattle.lid_design.specs.declared.Cell.{Cell}
use Rattle.lid_design.specs.declared.Cell.TheVariants.{Names, Latch}
use Rattle.lid_design.specs.declared.Init.{Init}
use Rattle.lid_design.specs.declared.Init.TheVariants.{Zero, One, DontCare, Unknown}
use Rattle.lid_design.specs.declared.Inst.{Inst}
use Rattle.lid_design.specs.Network.{Driver, from_input, from_latch, from_cover, from_connection, Table, IsStrict}
use Rattle.lid_base.specs.Each.{from_each}

-- a net of an instance. The path has the instance numbers from the innermost to the root's, so the
-- path of the instance around it is the tail
pub record Column : Type 0 where
  pub path : List ℕ
  pub net : List ℕ

abbrev pub column : List ℕ → List ℕ → Column
column path net = record { path = path; net = net }

abbrev pub is_among : List ℕ → List (List ℕ) → Bool
is_among name names = list_any (bytes_eq name) names

-- the first model of a name
abbrev pub model_named : Design → List ℕ → Option Model
model_named d name = find (λ m. bytes_eq m.name name) d.models

-- the model of an instance, by its number
abbrev pub instance_model : Design → ℕ → Model → Option Model
instance_model d i m = option_and_then (λ inst. model_named d inst.model) (slice_get m.insts i)

-- the model at a path
unfoldable pub model_at : Design → List ℕ → Option Model
model_at d [] = slice_get d.models d.root
model_at d (i ∷ path) = option_and_then (instance_model d i) (model_at d path)

-- whether a cell is a latch that the net clocks
abbrev pub is_clocked_by : List ℕ → Cell → Bool
is_clocked_by net (Names inputs out cover) = false
is_clocked_by net (Latch input out kind control init) = option_map_or (bytes_eq net) control false

-- whether the model itself makes a net a clock name
abbrev pub is_own_clock : Model → List ℕ → Bool
is_own_clock m net = is_among net m.clocks || list_any (is_clocked_by net) m.cells

-- whether an instance binds a net to a clock name of its model
abbrev pub binds_clock : Design → (Model → List ℕ → Bool) → List ℕ → Inst → Bool
binds_clock d is_clock_of net inst =
    option_map_or (λ m. list_any (λ b. bytes_eq b.actual net && is_clock_of m b.formal) inst.binds) (model_named d inst.model) false

-- whether a net is a clock name by at most so many steps into instances
abbrev pub is_clock_within : ℕ → Design → Model → List ℕ → Bool
is_clock_within zero d m net = is_own_clock m net
is_clock_within (suc n) d m net = is_own_clock m net || list_any (binds_clock d (is_clock_within n d) net) m.insts

-- the clock names of a model: the least set. Where no model reaches itself, no chain of instances
-- is longer than the list of models
unfoldable pub is_clock : Design → Model → List ℕ → Bool
is_clock d m net = is_clock_within (length d.models) d m net

-- the inputs that are no clock names
unfoldable pub data_inputs : Design → Model → List (List ℕ)
data_inputs d m = filter (λ net. not (is_clock d m net)) m.inputs

-- a latch begins at 1 only where that is written
abbrev pub first_bit : Init → Bool
first_bit Zero = false
first_bit One = true
first_bit DontCare = false
first_bit Unknown = false

-- the places of a name among names, as inputs of the root
abbrev pub places_of : List ℕ → ℕ → List (List ℕ) → List (Driver Column)
places_of net k [] = []
places_of net k (name ∷ names) = (if bytes_eq name net then from_input k ∷ [] else []) ++ places_of net (k + 1) names

-- what a cell drives a net with
abbrev pub cell_at : List ℕ → List ℕ → Cell → List (Driver Column)
cell_at path net (Names inputs out cover) = if bytes_eq out net then from_cover cover (map (column path) inputs) ∷ [] else []
cell_at path net (Latch input out kind control init) =
    if bytes_eq out net then from_latch (first_bit init) (column path input) ∷ [] else []

-- the bindings of a net to an output formal drive it with that formal
abbrev pub output_at : Design → List ℕ → List ℕ → ℕ × Inst → List (Driver Column)
output_at d path net p =
    option_map_or
    (λ m. flat_map
    (λ b. if bytes_eq b.actual net && is_among b.formal m.outputs then from_connection (column (p.0 ∷ path) b.formal) ∷ [] else [])
    p.1.binds)
    (model_named d p.1.model)
    []

-- the bindings of a formal, each with its actual around the instance
abbrev pub actuals_of : List ℕ → List ℕ → Inst → List (Driver Column)
actuals_of up net inst = flat_map (λ b. if bytes_eq b.formal net then from_connection (column up b.actual) ∷ [] else []) inst.binds

-- what drives an input: at the root the row, elsewhere the actual that it is bound to
abbrev pub port_at : Design → Model → List ℕ → List ℕ → List (Driver Column)
port_at d m [] net = places_of net 0 (data_inputs d m)
port_at d m (i ∷ up) net =
    if is_among net m.inputs
    then option_map_or (actuals_of up net) (option_and_then (λ around. slice_get around.insts i) (model_at d up)) []
    else []

-- what drives a net of the model at a path; a clock name has no column
abbrev pub drivers_in : Design → List ℕ → List ℕ → Model → List (Driver Column)
drivers_in d path net m =
    if is_clock d m net
    then []
    else port_at d m path net
    ++ flat_map (cell_at path net) m.cells
    ++ flat_map (output_at d path net) (enumerate_from 0 m.insts)

-- what drives a column
unfoldable pub drivers : Design → Column → List (Driver Column)
drivers d c = option_map_or (drivers_in d c.path c.net) (model_at d c.path) []

-- the names that the root gives out, in order
abbrev pub root_outputs : Design → List (List ℕ)
root_outputs d = option_map_or (λ m. m.outputs) (slice_get d.models d.root) []

-- the names that the root takes in, in order, without clocks
abbrev pub root_inputs : Design → List (List ℕ)
root_inputs d = option_map_or (data_inputs d) (slice_get d.models d.root) []

-- the outputs of a row of a table
abbrev pub output_row : Design → Table Column → ℕ → List Bool
output_row d b t = map (λ net. b t (column [] net)) (root_outputs d)

-- the outputs of so many rows of a table
abbrev pub output_rows : Design → Table Column → ℕ → List (List Bool)
output_rows d b n = from_each (output_row d b) 0 n

-- these are the strict outputs for the rows: there is a strict table, and each has them
pub record IsStrictOutput (d : Design) (rows outs : List (List Bool)) : Type 0 where
  pub some : (b : Table Column) × IsStrict (drivers d) rows b
  pub each : (b : Table Column) → IsStrict (drivers d) rows b → outs ≡ output_rows d b (length rows)
