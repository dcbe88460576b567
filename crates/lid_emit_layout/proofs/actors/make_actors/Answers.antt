-- The actors have the stations of the plan.
use Rattle.std.proofs.Common.{ℕ, List, length, sym, subst, ◌∙◌}
use Rattle.lid_stations.specs.Placed.{Placing, IsPlaced}
use Rattle.lid_emit_system.specs.Wrapping.{circuit_plan}
use Rattle.lid_emit_layout.specs.declared.ends.Ends.{Ends}
use Rattle.lid_emit_layout.specs.Actors.{HaveEnds}
use Rattle.lid_emit_layout.specs.Stations.{AreBetween}
use Rattle.lid_emit_layout.proofs.Framing.{few_stations, between}
use Rattle.lid_emit_layout.proofs.Acting.{actors_are}
use Rattle.lid_emit_layout.proofs.actors.make_actors.Goals as goal

pub returns : goal.returns
returns c = λ n are.
    let placed : IsPlaced c.args.placed.now.system c.args.placed.now.placement = subst (λ (v : Placing). IsPlaced v.system v.placement) c.placed.view_is c.placed.invariant in
    let ends = c.in_ok-ends.ends.items in
    actors_are c.args.placed.now.system c.args.placed.now.placement n c.args.stations.now are ends c.in_ok-actors.actors.items (few_stations c.args.placed.now.system c.args.placed.now.placement n c.args.stations.now placed.fits are)
    (c.in_ok-ends.ensures.many ∙ c.actor_count.ensures) (c.in_ok-ends.ensures.joined (circuit_plan c.args.placed.now.system c.args.placed.now.placement n) are)
    (subst (λ (xs : List Ends). HaveEnds (length xs) xs c.in_ok-actors.actors.items) c.as_slice.ensures.value c.in_ok-actors.ensures)

pub make_ends-requires-clause-few : goal.make_ends-requires-clause-few
make_ends-requires-clause-few c =
    let placed : IsPlaced c.args.placed.now.system c.args.placed.now.placement = subst (λ (v : Placing). IsPlaced v.system v.placement) c.placed.view_is c.placed.invariant in
    few_stations c.args.placed.now.system c.args.placed.now.placement c.requires.stations.0 c.args.stations.now placed.fits c.requires.stations.1

pub make_ends-requires-clause-between : goal.make_ends-requires-clause-between
make_ends-requires-clause-between c =
    let placed : IsPlaced c.args.placed.now.system c.args.placed.now.placement = subst (λ (v : Placing). IsPlaced v.system v.placement) c.placed.view_is c.placed.invariant in
    subst (λ (m : ℕ). AreBetween m c.args.stations.now) (sym c.actor_count.ensures)
    (between c.args.placed.now.system c.args.placed.now.placement c.requires.stations.0 c.args.stations.now placed.formed placed.fits c.requires.stations.1)
