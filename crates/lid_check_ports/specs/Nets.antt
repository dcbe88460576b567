-- How what is driven and read in a model is found, by the numbers of its names.
use Rattle.std.specs.Prelude.{◌≡◌, ℕ, Bool, not, ◌&&◌, List, map, filter, Some, slice_get}
use Rattle.lid_design.specs.declared.Design.{Design}
use Rattle.lid_design.specs.declared.Inst.{Inst}
use Rattle.lid_design.specs.declared.Bind.{Bind}
use Rattle.lid_design.specs.Models.{is_clock_of, actual_of, driven_by, read_by, driver_names, inner_drivers, read_names}
use Rattle.lid_check_table.specs.Tables.{names_in}
use Rattle.lid_check_table.specs.Marks.{marks_of, again_of}
use Rattle.lid_check_ports.specs.declared.ports.Port.TheVariants.{Input, Output}
use Rattle.lid_check_ports.specs.declared.nets.Nets.{Nets}
use Rattle.lid_check_ports.specs.declared.nets.Side.{Side}
use Rattle.lid_check_ports.specs.declared.nets.Side.TheVariants.{Driven, Read}
use Rattle.lid_check_ports.specs.Ports.{is_in}

-- whether a binding to a formal drives the actual, or reads it
abbrev pub is_on : Side → Design → ℕ → List ℕ → Bool
is_on Driven d k name = is_in d Output k name
is_on Read d k name = is_in d Input k name && not (is_clock_of d k name)

-- the actuals that bindings drive, or read
abbrev pub actuals_on : Side → Design → ℕ → List Bind → List (List ℕ)
actuals_on side d k binds = map actual_of (filter (λ b. is_on side d k b.formal) binds)

-- the nets that an instance drives, or reads
abbrev pub nets_on : Side → Design → Inst → List (List ℕ)
nets_on Driven d inst = driven_by d inst
nets_on Read d inst = read_by d inst

-- what is driven and read in the model of a number
pub record AreNets (d : Design) (k : ℕ) (nets : Nets) : Type 0 where
  pub here : slice_get d.models k ≡ Some nets.table.now
  pub driven : nets.drivers.all.all ≡ marks_of (names_in nets.table.now) (driver_names d nets.table.now)
  pub again : nets.drivers.all.twice ≡ again_of (names_in nets.table.now) (driver_names d nets.table.now)
  pub within : nets.drivers.inner ≡ marks_of (names_in nets.table.now) (inner_drivers d nets.table.now)
  pub read : nets.reads ≡ marks_of (names_in nets.table.now) (read_names d nets.table.now)
