-- The nets of a model: where its names occur, what drives and what reads them; and how models use
-- each other.
use Rattle.std.specs.Prelude.{◌≡◌, ◌↔◌, ◌≤◌, ◌<◌, ⊤, ℕ, ◌+◌, ◌==◌, nat_lt, Bool, true, false, not, ◌&&◌, ◌||◌, List, [], ◌∷◌, ◌++◌, length, map, filter, flat_map, count_by, position, Option, Some, None, option_and_then, slice_get}
use Rattle.std.specs.Option.{option_map_or}
use Rattle.std.specs.Str.{bytes_eq}
use Rattle.lid_base.specs.Lists.{Among}
use Rattle.lid_cover.specs.Cover.{cover_value}
use Rattle.lid_design.specs.declared.Design.{Design}
use Rattle.lid_design.specs.declared.Model.{Model}
use Rattle.lid_design.specs.declared.Cell.{Cell}
use Rattle.lid_design.specs.declared.Cell.TheVariants.{Names, Latch}
use Rattle.lid_design.specs.declared.Inst.{Inst}
use Rattle.lid_design.specs.declared.Bind.{Bind}
use Rattle.lid_design.specs.Columns.{is_among, model_named, is_clock, data_inputs}

-- the control of a latch, where it has one
abbrev pub control_names : Option (List ℕ) → List (List ℕ)
control_names None = []
control_names (Some name) = name ∷ []

-- the nets of a cell: inputs, control, output
abbrev pub cell_names : Cell → List (List ℕ)
cell_names (Names inputs out cover) = inputs ++ out ∷ []
cell_names (Latch input out kind control init) = input ∷ control_names control ++ out ∷ []

abbrev pub actual_of : Bind → List ℕ
actual_of b = b.actual

abbrev pub formal_of : Bind → List ℕ
formal_of b = b.formal

-- the formals that an instance binds
abbrev pub formals : Inst → List (List ℕ)
formals inst = map formal_of inst.binds

abbrev pub actual_names : Inst → List (List ℕ)
actual_names inst = map actual_of inst.binds

-- the places of a model where a net is named, in order: a formal and NIL name no net of it
unfoldable pub occurrences : Model → List (List ℕ)
occurrences m =
    m.inputs ++ m.outputs ++ m.clocks ++ flat_map cell_names m.cells ++ flat_map actual_names m.insts

-- whether a name stands in a list more than once
abbrev pub is_twice : List (List ℕ) → List ℕ → Bool
is_twice names name = nat_lt 1 (count_by (bytes_eq name) names)

-- each name where it comes first
abbrev pub firsts : List (List ℕ) → List (List ℕ)
firsts [] = []
firsts (name ∷ names) = name ∷ filter (λ other. not (bytes_eq other name)) (firsts names)

-- the nets that have a column: the names in order of first appearance, without clock names
unfoldable pub nets : Design → Model → List (List ℕ)
nets d m = filter (λ net. not (is_clock d m net)) (firsts (occurrences m))

-- whether a name may be bound as a formal of a model
abbrev pub is_port : Model → List ℕ → Bool
is_port m name = is_among name m.inputs || (is_among name m.outputs || is_among name m.clocks)

-- what the lists of a model drive: .inputs and .clock together drive a name once
abbrev pub port_drivers : Model → List (List ℕ)
port_drivers m = m.inputs ++ filter (λ net. not (is_among net m.inputs)) m.clocks

abbrev pub cell_out : Cell → List ℕ
cell_out (Names inputs out cover) = out
cell_out (Latch input out kind control init) = out

abbrev pub cell_reads : Cell → List (List ℕ)
cell_reads (Names inputs out cover) = inputs
cell_reads (Latch input out kind control init) = input ∷ []

-- the actuals of the formals that are in a list
abbrev pub actuals_bound_to : List (List ℕ) → List Bind → List (List ℕ)
actuals_bound_to formals binds = map actual_of (filter (λ b. is_among b.formal formals) binds)

-- the nets that an instance drives: the actuals of output formals
abbrev pub driven_by : Design → Inst → List (List ℕ)
driven_by d inst = option_map_or (λ m. actuals_bound_to m.outputs inst.binds) (model_named d inst.model) []

-- the nets that an instance reads: the actuals of data input formals
abbrev pub read_by : Design → Inst → List (List ℕ)
read_by d inst = option_map_or (λ m. actuals_bound_to (data_inputs d m) inst.binds) (model_named d inst.model) []

-- the nets that cells and instances drive, once for each driver
abbrev pub inner_drivers : Design → Model → List (List ℕ)
inner_drivers d m = map cell_out m.cells ++ flat_map (driven_by d) m.insts

-- the nets that are driven, once for each driver
unfoldable pub driver_names : Design → Model → List (List ℕ)
driver_names d m = port_drivers m ++ inner_drivers d m

-- the nets that are read
unfoldable pub read_names : Design → Model → List (List ℕ)
read_names d m = flat_map cell_reads m.cells ++ flat_map (read_by d) m.insts ++ m.outputs

-- a buffer has one input, whose value it takes
abbrev pub is_buffer : Cell → Bool
is_buffer (Names inputs out cover) =
    (length inputs == 1) && (not (cover_value cover (false ∷ [])) && cover_value cover (true ∷ []))
is_buffer (Latch input out kind control init) = false

-- a constant has no input
abbrev pub is_constant : Cell → Bool
is_constant (Names inputs out cover) = length inputs == 0
is_constant (Latch input out kind control init) = false

-- the place of a model among the models, by its name
abbrev pub number_named : Design → List ℕ → Option ℕ
number_named d name = position (λ m. bytes_eq m.name name) d.models

-- the instances of a model, by the model's number
abbrev pub insts_of : Design → ℕ → List Inst
insts_of d k = option_map_or (λ m. m.insts) (slice_get d.models k) []

-- whether a name is a clock name of a model, by the model's number
abbrev pub is_clock_of : Design → ℕ → List ℕ → Bool
is_clock_of d k name = option_map_or (λ m. is_clock d m name) (slice_get d.models k) false

-- the data inputs of a model, by the model's number
abbrev pub data_inputs_of : Design → ℕ → List (List ℕ)
data_inputs_of d k = option_map_or (data_inputs d) (slice_get d.models k) []

-- the number of the model of instance i of model k
abbrev pub instance_number : Design → ℕ → ℕ → Option ℕ
instance_number d i k = option_and_then (λ inst. number_named d inst.model) (slice_get (insts_of d k) i)

-- the number of the model that a path leads to, from model k. The path has the instance numbers
-- from the innermost to that in model k
unfoldable pub number_from : Design → ℕ → List ℕ → Option ℕ
number_from d k [] = Some k
number_from d k (i ∷ path) = option_and_then (instance_number d i) (number_from d k path)

-- a model is reached when it is the root, or when a reached model has an instance of it by name
abbrev pub IsReached : Design → ℕ → Type 0
IsReached d k = (path : List ℕ) × (number_from d d.root path ≡ Some k)

-- a model reaches itself through one or more instances
abbrev pub ReachesItself : Design → ℕ → Type 0
ReachesItself d k = (i : ℕ) × (path : List ℕ) × (number_from d k (i ∷ path) ≡ Some k)

abbrev pub HasNoRecursion : Design → Type 0
HasNoRecursion d = (k : ℕ) → IsReached d k → ¬ ReachesItself d k

-- the first model in the order of the text that is reached and reaches itself
pub record IsFirstRecursive (d : Design) (k : ℕ) : Type 0 where
  pub reached : IsReached d k
  pub itself : ReachesItself d k
  pub first : (j : ℕ) → j < k → IsReached d j → ¬ ReachesItself d j

-- numbers ascend from a least one on
abbrev pub Ascend : ℕ → List ℕ → Type 0
Ascend least [] = ⊤
Ascend least (k ∷ ks) = (least ≤ k) × Ascend (k + 1) ks

-- the numbers of all reached models, in the order of the text
pub record AreReached (d : Design) (ks : List ℕ) : Type 0 where
  pub ascend : Ascend 0 ks
  pub each : (k : ℕ) → Among k ks ↔ IsReached d k
