-- Systems whose channels have stations.
use Rattle.lid_system.specs.declared.System.{System}
use Rattle.lid_system.specs.Systems.{IsWellFormed}
use Rattle.lid_stations.specs.declared.placement.Placement.{Placement}
use Rattle.lid_stations.specs.Placements.{Links, links_of, Fits}

-- a system, and the stations on its channels
pub record Placing : Type 0 where
  pub system : System
  pub placement : Placement

-- the system is well formed, and the stations fit it
pub record IsPlaced (s : System) (p : Placement) : Type 0 where
  pub formed : IsWellFormed s
  pub fits : Fits s p

-- what the stations see of the system
abbrev pub links_in : Placing → Links
links_in p = links_of p.system
