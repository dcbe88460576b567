-- Walks that have not begun.
use Rattle.std.proofs.Common.{◌≡◌, ℕ, ◌≤◌, Bool, List, refl, ◌∙◌, sym, arith}
use Rattle.lid_design.specs.Walks.{HasTable}
use Rattle.lid_system.specs.declared.System.{System}
use Rattle.lid_system.specs.Tables.{system_drivers}
use Rattle.lid_stations.specs.declared.placement.Placement.{Placement}
use Rattle.lid_stations.specs.Placements.{links_of}
use Rattle.lid_stations.specs.Stations.{actor_count}
use Rattle.lid_walk_machine.specs.Plans.{actors_of}
use Rattle.lid_walk_machine.specs.Setups.{plan}
use Rattle.lid_shell_laws.specs.Setups.{Setup}
use Rattle.lid_walk_machine.specs.Machine.{begun}
use Rattle.lid_walk.specs.Setups.{IsSetupOf}
use Rattle.lid_walk.proofs.Setting.{actors_are}
use Rattle.lid_walk.proofs.Opening.{setup_of}
use Rattle.lid_walk.specs.declared.walk.Walk.{Walk}
use Rattle.lid_walk.specs.Walks.{Walks, IsAtRest}
use Rattle.lid_tests_fixtures.specs.Runs.{IsFittingRun}
use Rattle.lid_shell_tests.specs.Runs.{HasActors}

module _ (s : System) (p : Placement) (rows : List (List Bool)) (run : IsFittingRun s p rows) (tables : HasTable (system_drivers s)) (w : Walk) (walks : (m : Setup) → IsSetupOf m s p rows → Walks m begun w) where
  abbrev own : (m : Setup) × IsSetupOf m s p rows
  own = setup_of s p rows run.system run.fits run.few run.wide tables

  pub has_actors : (many : ℕ) → many ≡ actor_count (links_of s) p → HasActors w many
  has_actors many is =
      let all : actors_of (plan own.0) ≡ actor_count (links_of s) p = actors_are own.0 s p own.1.system own.1.placement in
      (own.0, begun, walks own.0 own.1, omega arith)

  pub at_rest : IsAtRest w
  at_rest = (own.0, begun, walks own.0 own.1, λ v there. refl)
