-- The outside is that of the plan.
use Rattle.std.proofs.lemmas.Option.{slice_get_read}
use Rattle.std.proofs.Common.{refl, ◌≡◌, ◌-◌, ◌<◌, ◌≤◌, ℕ, length, map, sym, subst, ap, arith}
use Rattle.lid_emit_circuit.specs.Plans.{ends}
use Rattle.lid_emit_circuit.specs.Network.{sink}
use Rattle.lid_stations.specs.Placed.{Placing}
use Rattle.lid_emit_system.specs.Nets.{read_wire}
use Rattle.lid_emit_system.specs.Wrapping.{circuit_plan, sink_reads}
use Rattle.lid_emit_cells.specs.Shown.{wire_of}
use Rattle.lid_emit_layout.proofs.outer.make_outer.Goals as goal

pub returns-clause-is : goal.returns-clause-is
returns-clause-is c = rw (← c.placed.view_is) (λ n are.
    let q = circuit_plan c.placed.inside.system.now c.placed.inside.placement.now n in
    let actors = c.args.actors.now in
    let nodes : length c.placed.inside.system.now.nodes ≤ length actors = subst (λ (v : Placing). length v.system.nodes ≤ length c.args.actors.now) (sym c.placed.view_is) c.requires.nodes in
    let i = c.len-last.result - 1 in
    let last : sink q ≡ i = ap (λ (m : ℕ). m - 1) (sym c.len-last.ensures) in
    let below : i < length actors = omega (arith, c.len-last.ensures, nodes, c.placed.invariant.formed.least) in
    let first : 0 < length actors = omega (arith, nodes, c.placed.invariant.formed.least) in
    record {
      inputs = sym c.input_count-inputs.ensures;
      last = last;
      last_ends = subst (λ (m : ℕ). length (ends q m) ≡ c.end_count-2.result) (sym last) (c.end_count-2.ensures q i (are.each i c.index-actors-last.result (slice_get_read actors _ i c.index-actors-last.result refl below c.index-actors-last.is)));
      first_ends = c.end_count.ensures q 0 (are.each 0 c.index-actors-0.result (slice_get_read actors _ 0 c.index-actors-0.result refl first c.index-actors-0.is));
      shows = sym (subst (λ (v : Placing). map wire_of c.in_ok-shows.shows ≡ map (read_wire v.placement) (sink_reads v.system)) (sym c.placed.view_is) c.in_ok-shows.ensures.is);
    })
