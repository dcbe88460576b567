-- Setups of a system, its stations and its rows.
use Rattle.std.specs.Prelude.{◌≡◌, Bool, List}
use Rattle.lid_system.specs.declared.System.{System}
use Rattle.lid_stations.specs.declared.placement.Placement.{Placement}
use Rattle.lid_shell_laws.specs.Setups.{Setup, IsSetup}

-- this is a setup of these; there is one, by the table of the system
pub record IsSetupOf (m : Setup) (s : System) (p : Placement) (rows : List (List Bool)) : Type 0 where
  pub rules : IsSetup m
  pub system : m.system ≡ s
  pub placement : m.placement ≡ p
  pub input : m.input ≡ rows
