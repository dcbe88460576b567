-- What laws say of the systems and stations of free runs.
use Rattle.std.specs.Prelude.{ℕ}
use Rattle.lid_design.specs.Walks.{HasTable}
use Rattle.lid_system.specs.declared.System.{System}
use Rattle.lid_system.specs.Systems.{IsWellFormed}
use Rattle.lid_system.specs.Tables.{system_drivers}
use Rattle.lid_stations.specs.Laws.{StationsHaveTwoEdges}

pub record FreeRunsGoByRules : Type 0 where
  pub some : (s : System) → IsWellFormed s → HasTable (system_drivers s)
  pub edges : StationsHaveTwoEdges
