-- Which designs are accepted, and what is told of the others.
use Rattle.std.specs.Prelude.{◌≡◌, ℕ, ◌⊎◌, List, Option, Some, None, option_map}
use Rattle.lid_design.specs.declared.Design.{Design}
use Rattle.lid_design.specs.Models.{number_named}
use Rattle.lid_design.specs.Loops.{HasNoLoop}
use Rattle.lid_check_rules.specs.declared.fault.CheckFault.{CheckFault}
use Rattle.lid_check_rules.specs.declared.fault.CheckFault.TheVariants.{NoRoot}
use Rattle.lid_check_rules.specs.Acceptance.{ModelsPass, IsModelFault}
use Rattle.lid_check_loops.specs.Dependence.{TellsLoop, HasNoDependence, TellsDependence}

-- the design with model k as its root
abbrev pub rooted_at : Design → ℕ → Design
rooted_at d k = record { models = d.models; root = k }

-- the design with the root that was chosen by name, where one was chosen
abbrev pub with_root : Design → Option (List ℕ) → Option Design
with_root d None = Some d
with_root d (Some name) = option_map (rooted_at d) (number_named d name)

-- a design with its root is accepted where no condition applies
pub record IsAccepted (d : Design) : Type 0 where
  pub models : ModelsPass d
  pub loops : HasNoLoop d
  pub outputs : HasNoDependence d

-- the first condition that applies to a design with its root tells this fault
abbrev pub IsRefusal : Design → CheckFault → Type 0
IsRefusal d fault =
    IsModelFault d fault
    ⊎ (ModelsPass d × TellsLoop d fault)
    ⊎ (ModelsPass d × HasNoLoop d × TellsDependence d fault)

-- what is answered where a root was chosen, if one was
abbrev pub IsRefused : Option Design → CheckFault → Type 0
IsRefused None fault = fault ≡ NoRoot
IsRefused (Some d) fault = IsRefusal d fault
