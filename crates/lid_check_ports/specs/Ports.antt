-- How names are looked up: the lists of the models of a design, as sets.
use Rattle.std.specs.Prelude.{◌≡◌, ℕ, Bool, false, List, map, slice_get}
use Rattle.std.specs.Option.{option_map_or}
use Rattle.lid_design.specs.declared.Design.{Design}
use Rattle.lid_design.specs.declared.Model.{Model}
use Rattle.lid_design.specs.Columns.{is_among}
use Rattle.lid_design.specs.Models.{firsts}
use Rattle.lid_check_ports.specs.declared.ports.Port.{Port}
use Rattle.lid_check_ports.specs.declared.ports.Port.TheVariants.{Input, Output, Clock}

-- a list of a model
abbrev pub names_in : Port → Model → List (List ℕ)
names_in Input m = m.inputs
names_in Output m = m.outputs
names_in Clock m = m.clocks

-- the set of the names of a list, for each model
abbrev pub sets_in : Port → List Model → List (List (List ℕ))
sets_in port ms = map (λ m. firsts (names_in port m)) ms

-- whether a name is in a list of the model of a number
abbrev pub is_in : Design → Port → ℕ → List ℕ → Bool
is_in d port k name = option_map_or (λ m. is_among name (names_in port m)) (slice_get d.models k) false

-- the sets of the lists of some models
pub record ArePorts (ms : List Model) (inputs outputs clocks : List (List (List ℕ))) : Type 0 where
  pub each_input : inputs ≡ sets_in Input ms
  pub each_output : outputs ≡ sets_in Output ms
  pub each_clock : clocks ≡ sets_in Clock ms
