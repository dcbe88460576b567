-- All cells of a wrapped system, by the size.
use Rattle.std.proofs.Common.{◌≡◌, ℕ, ◌+◌, ◌*◌, ◌≤◌, List, flat_map, refl, arith}
use Rattle.lid_design.specs.declared.Design.{Design}
use Rattle.lid_base.specs.Each.{from_each}
use Rattle.lid_system.specs.declared.System.{System}
use Rattle.lid_system.specs.Systems.{IsWellFormed}
use Rattle.lid_net_law.specs.Agreement.{IsSystemOf}
use Rattle.lid_stations.specs.declared.placement.Placement.{Placement}
use Rattle.lid_stations.specs.Placements.{links_of, Fits}
use Rattle.lid_emit_circuit.specs.Wires.{Wire}
use Rattle.lid_emit_circuit.specs.Plans.{CircuitPlan}
use Rattle.lid_emit_circuit.specs.Lists.{shell_wires, wires}
use Rattle.lid_emit_system.specs.Nets.{NetWires, AreNetWires}
use Rattle.lid_emit_system.specs.Wrapping.{circuit_plan}
use Rattle.lid_emit_names.specs.Named.{cells_driving}
use Rattle.lid_check_laws.proofs.Totals.{total}
use Rattle.lid_emit_laws.specs.Flats.{AreFlatsOf}
use Rattle.lid_emit_meaning.specs.Sizes.{size}
use Rattle.lid_emit_laws.specs.Passing.{SkipBuffers}
use Rattle.lid_emit_laws.specs.Bounds.{plan_cells, AreFew}
use Rattle.lid_emit_laws.proofs.Weights.{each_weight, all_weights}
use Rattle.lid_emit_laws.proofs.Loads.{load, loads, loaded, wire_load, wires_load, outer_load, stations_load, actors_load}
use Rattle.lid_emit_laws.proofs.Shells.{shell_load}
use Rattle.lid_emit_laws.proofs.Nodes.{connected, ports_few, room, relays_few, ends_few, shell_at, node_few, node_skips, shells_few, pearls_few}
use Rattle.lid_base.proofs.Sums.{sum_flat}

module _ (d : Design) (s : System) (p : Placement) (n : NetWires) (name : Wire → List ℕ) (of : IsSystemOf d s) (well : IsWellFormed s) (fits : Fits s p) (nets : AreNetWires s p n) (flats : AreFlatsOf d s n) (skips : SkipBuffers s n) where
  abbrev q : CircuitPlan
  q = circuit_plan s p n

  node_load : (v : ℕ) → wires_load q name (shell_wires q v) ≤ 10 * shell_at d s p n of well fits nets flats skips v
  node_load v =
      let con = connected d s p n of well fits nets flats skips in
      let whole = shell_load q name v (con.rules v) (node_skips d s p n of well fits nets flats skips v) in
      let few = node_few d s p n of well fits nets flats skips v in
      omega arith

  nodes_load : (k m : ℕ) → wires_load q name (flat_map (shell_wires q) (from_each (λ v. v) k m)) ≤ 10 * total (shell_at d s p n of well fits nets flats skips) k m
  nodes_load k m = let all = each_weight (wire_load q name) (shell_wires q) (shell_at d s p n of well fits nets flats skips) 0 10 0 k m (λ v low high. let here = node_load v in omega arith) in omega arith

  all_loads : loads (plan_cells q name) ≡ wires_load q name (wires q)
  all_loads = sum_flat load (cells_driving q name) (wire_load q name) (wires q) (λ w i. refl)

  parts_load : wires_load q name (wires q) ≤ 40 * size d (links_of s) p + 64
  unfolding size
  parts_load =
      let parts = all_weights (wire_load q name) q in
      let outer = outer_load q name in
      let ports = ports_few d s p n of well fits nets flats skips in
      let at_stations = stations_load q name (room d s p n of well fits nets flats skips) 0 q.stations in
      let at_actors = actors_load q name 0 q.actors in
      let two_ends = ends_few d s p n of well fits nets flats skips q.actors in
      let movers = relays_few d s p n of well fits nets flats skips in
      let nodes = of.nodes in
      let at_nodes = nodes_load 0 q.nodes in
      let sizes = shells_few d s p n of well fits nets flats skips q.nodes in
      let many = pearls_few d s p n of well fits nets flats skips in
      omega arith

  pub few_cells : size d (links_of s) p ≤ 16384 → AreFew (plan_cells q name)
  few_cells small =
      let counted = loaded (plan_cells q name) in
      let all = all_loads in
      let most = parts_load in
      record { cells = omega arith; rows = omega arith }
