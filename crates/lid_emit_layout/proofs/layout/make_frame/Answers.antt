-- The actors and the outside are those of the plan.
use Rattle.std.proofs.Common.{◌≡◌, List, length, slice_get, Some, sym, subst, ap, ◌∙◌, arith}
use Rattle.lid_stations.specs.Placements.{links_of}
use Rattle.lid_stations.specs.Stations.{actor_count}
use Rattle.lid_emit_system.specs.Wrapping.{circuit_plan}
use Rattle.lid_emit_cells.specs.declared.actor.ActorStations.{ActorStations}
use Rattle.lid_emit_cells.specs.declared.station.Station.{Station}
use Rattle.lid_emit_layout.specs.Stations.{AreStationsOf}
use Rattle.lid_emit_layout.specs.Actors.{AreActorsOf}
use Rattle.lid_emit_layout.proofs.layout.make_frame.Goals as goal

pub make_actors-requires : goal.make_actors-requires
make_actors-requires c =
    let n = c.requires.stations.0 in
    record { stations = (n, subst (λ (xs : List Station). AreStationsOf (circuit_plan c.args.placed.now.system c.args.placed.now.placement n) xs) (sym c.as_slice.ensures.value) c.requires.stations.1) }

pub make_outer-requires-clause-nodes : goal.make_outer-requires-clause-nodes
make_outer-requires-clause-nodes c =
    let n = c.requires.stations.0 in
    let are = subst (λ (xs : List Station). AreStationsOf (circuit_plan c.args.placed.now.system c.args.placed.now.placement n) xs) (sym c.as_slice.ensures.value) c.requires.stations.1 in
    let actors = c.in_ok-actors.ensures n are in
    let many : actor_count (links_of c.args.placed.now.system) c.args.placed.now.placement ≡ length c.as_slice-2.result.now = actors.many ∙ ap length (sym c.as_slice-2.ensures.value) in
    omega (arith, many)

pub make_outer-requires-clause-small : goal.make_outer-requires-clause-small
make_outer-requires-clause-small c = λ v actor at.
    let n = c.requires.stations.0 in
    let are = subst (λ (xs : List Station). AreStationsOf (circuit_plan c.args.placed.now.system c.args.placed.now.placement n) xs) (sym c.as_slice.ensures.value) c.requires.stations.1 in
    let actors = c.in_ok-actors.ensures n are in
    actors.small v actor (subst (λ (xs : List ActorStations). slice_get xs v ≡ Some actor) c.as_slice-2.ensures.value at)

pub returns : goal.returns
returns c = λ n given.
    let q = circuit_plan c.args.placed.now.system c.args.placed.now.placement n in
    let are = subst (λ (xs : List Station). AreStationsOf q xs) (sym c.as_slice.ensures.value) given in
    let actors = c.in_ok-actors.ensures n are in
    record {
      outer = c.in_ok-outer.ensures.is n (subst (λ (xs : List ActorStations). AreActorsOf q xs) (sym c.as_slice-2.ensures.value) actors);
      shows = c.in_ok-outer.ensures.few;
      stations = subst (λ (xs : List Station). AreStationsOf q xs) (sym c.from_vec.ensures) given;
      actors = subst (λ (xs : List ActorStations). AreActorsOf q xs) (sym c.from_vec-2.ensures) actors;
    }
