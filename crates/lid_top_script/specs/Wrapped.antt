-- An accepted design with its channels, the same with its system, and the stations on the channels of that.
use Rattle.std.specs.Prelude.{List}
use Rattle.lid_design.specs.declared.Design.{Design}
use Rattle.lid_system.specs.declared.Channel.{Channel}
use Rattle.lid_system.specs.declared.System.{System}
use Rattle.lid_system.specs.Systems.{IsWellFormed}
use Rattle.lid_net_law.specs.Agreement.{IsSystemOf}
use Rattle.lid_stations.specs.declared.placement.Placement.{Placement}
use Rattle.lid_stations.specs.Placements.{Fits}

-- a design and its channels
pub record Graphing : Type 0 where
  pub design : Design
  pub channels : List Channel

-- a design and its system
pub record Building : Type 0 where
  pub design : Design
  pub system : System

-- a design and the channels of its system
abbrev pub graphing_of : Building → Graphing
graphing_of b = record { design = b.design; channels = b.system.channels }

-- the system is one of the design
pub record IsBuilt (d : Design) (s : System) : Type 0 where
  pub system : IsWellFormed s
  pub of : IsSystemOf d s

-- a design, its system, and how many stations stand on the channels of that
pub record Wrapping : Type 0 where
  pub design : Design
  pub system : System
  pub placement : Placement

-- the system is one of the design, and the stations fit it
pub record IsWrapped (d : Design) (s : System) (p : Placement) : Type 0 where
  pub system : IsWellFormed s
  pub of : IsSystemOf d s
  pub fits : Fits s p
