-- What a setup of a system, its stations and its rows has of theirs.
use Rattle.std.proofs.Common.{◌≡◌, ℕ, length, ◌∙◌, ap}
use Rattle.lid_system.specs.declared.System.{System}
use Rattle.lid_stations.specs.declared.placement.Placement.{Placement}
use Rattle.lid_stations.specs.Placements.{links_of, station_count}
use Rattle.lid_stations.specs.Stations.{actor_count}
use Rattle.lid_shell_laws.specs.Runs.{drained_by, filled_by}
use Rattle.lid_walk_machine.specs.Plans.{actors_of, stations_of, ins_of, outs_of}
use Rattle.lid_walk_machine.specs.Setups.{plan}
use Rattle.lid_shell_laws.specs.Setups.{Setup}

module _ (m : Setup) (s : System) (p : Placement) (of : m.system ≡ s) (on : m.placement ≡ p) where
  pub ins_are : (v : ℕ) → ins_of (plan m) v ≡ drained_by (links_of s) p v
  ins_are v = ap (λ (x : System). drained_by (links_of x) m.placement v) of ∙ ap (λ (x : Placement). drained_by (links_of s) x v) on

  pub outs_are : (v : ℕ) → outs_of (plan m) v ≡ filled_by (links_of s) p v
  outs_are v = ap (λ (x : System). filled_by (links_of x) m.placement v) of ∙ ap (λ (x : Placement). filled_by (links_of s) x v) on

  pub nodes_are : length m.system.nodes ≡ length s.nodes
  nodes_are = ap (λ (x : System). length x.nodes) of

  pub actors_are : actors_of (plan m) ≡ actor_count (links_of s) p
  actors_are = ap (λ (x : System). actor_count (links_of x) m.placement) of ∙ ap (λ (x : Placement). actor_count (links_of s) x) on

  pub stations_are : stations_of (plan m) ≡ station_count p.relays
  stations_are = ap (λ (x : Placement). station_count x.relays) on
