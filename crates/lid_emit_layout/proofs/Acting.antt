-- Actors of a plan, by the stations that were joined to them.
use Rattle.std.proofs.Common.{◌≡◌, ℕ, ◌+◌, ◌<◌, ◌≤◌, ◌==◌, List, [], ◌∷◌, ◌++◌, length, map, sym, ◌∙◌, ap, subst, arith}
use Rattle.std.specs.Prelude.{Some, slice_get}
use Rattle.std.proofs.lemmas.Option.{slice_get_within}
use Rattle.std.proofs.lemmas.List.{length-map, length_push}
use Rattle.std.proofs.lemmas.List.Sums.{length-filter, count_by-le-length}
use Rattle.lid_base.specs.Each.{from_each}
use Rattle.lid_system.specs.declared.System.{System}
use Rattle.lid_stations.specs.declared.placement.Placement.{Placement}
use Rattle.lid_stations.specs.Placements.{links_of}
use Rattle.lid_stations.specs.Stations.{actor_count}
use Rattle.lid_emit_system.specs.Nets.{NetWires}
use Rattle.lid_emit_system.specs.Wrapping.{circuit_plan}
use Rattle.lid_emit_cells.specs.declared.actor.ActorStations.{ActorStations}
use Rattle.lid_emit_cells.specs.declared.actor.Fill.{Fill}
use Rattle.lid_emit_cells.specs.declared.station.Station.{Station}
use Rattle.lid_emit_cells.specs.Matches.{IsActorOf, IsSmallActor, station_of}
use Rattle.lid_emit_layout.specs.declared.ends.Ends.{Ends}
use Rattle.lid_emit_layout.specs.Stations.{AreStationsOf}
use Rattle.lid_emit_layout.specs.Ends.{stations_at, IsActorJoined, AreJoined}
use Rattle.lid_emit_layout.specs.Actors.{HasEnds, HaveEnds, AreActorsOf}
use Rattle.lid_base.proofs.Places.{each_push}
use Rattle.lid_base.proofs.Each.{each_length}

-- another actor has its stations
pub next_has : (n : ℕ) (ends : List Ends) (actors : List ActorStations) (e : Ends) (actor : ActorStations) → HaveEnds n ends actors → slice_get ends n ≡ Some e → HasEnds e actor → HaveEnds (n + 1) ends (actors ++ actor ∷ [])
next_has n ends actors e actor have at has = record {
  many = length_push actors actor ∙ ap (λ (m : ℕ). m + 1) have.many;
  each = each_push (λ v a. (e : Ends) × (slice_get ends v ≡ Some e) × HasEnds e a) actors actor have.each (e, subst (λ (m : ℕ). slice_get ends m ≡ Some e) (sym have.many) at, has);
}

-- an actor has at most all stations at one side
few_at : (side : ℕ → ℕ) (n v : ℕ) → length (stations_at side n v) ≤ n
few_at side n v =
    omega (arith, length-filter (λ s. side s == v) (from_each (λ s. s) 0 n), count_by-le-length (λ s. side s == v) (from_each (λ s. s) 0 n), each_length (λ (s : ℕ). s) 0 n)

module _ (s : System) (p : Placement) (n : NetWires) (stations : List Station) (are : AreStationsOf (circuit_plan s p n) stations) where
  actor_is : (v : ℕ) (e : Ends) (actor : ActorStations) → v < actor_count (links_of s) p → IsActorJoined (circuit_plan s p n) (length stations) v e → HasEnds e actor → IsActorOf (circuit_plan s p n) v actor
  actor_is v e actor below joined has = record {
    there = below;
    ins = ap (λ (m : ℕ). stations_at (circuit_plan s p n).drainer m v) are.many ∙ joined.ins ∙ sym has.ins;
    outs = ap (λ (m : ℕ). stations_at (circuit_plan s p n).filler m v) are.many ∙ joined.outs ∙ ap (map station_of) (sym has.outs);
    capacities = λ i fill at. joined.capacities i fill (subst (λ (xs : List Fill). slice_get xs i ≡ Some fill) has.outs at);
  }

  actor_small : (v : ℕ) (e : Ends) (actor : ActorStations) → length stations ≤ 65536 → IsActorJoined (circuit_plan s p n) (length stations) v e → HasEnds e actor → IsSmallActor actor
  actor_small v e actor few joined has =
      let ins : length actor.ins ≤ length stations = (let long = ap length (joined.ins ∙ sym has.ins) in omega (arith, long, few_at (circuit_plan s p n).drainer (length stations) v)) in
      let outs : length actor.outs ≤ length stations = (let long = ap length (joined.outs ∙ ap (map station_of) (sym has.outs)) in omega (arith, long, length-map actor.outs station_of, few_at (circuit_plan s p n).filler (length stations) v)) in
      omega (arith, ins, outs, few)

  pub actors_are : (ends : List Ends) (actors : List ActorStations) → length stations ≤ 65536 → length ends ≡ actor_count (links_of s) p → AreJoined (circuit_plan s p n) (length stations) ends → HaveEnds (length ends) ends actors → AreActorsOf (circuit_plan s p n) actors
  actors_are ends actors few many joined have = record {
    many = sym (have.many ∙ many);
    each = λ v actor at.
        let e = have.each v actor at in
        let within : v < length actors = slice_get_within actors v actor at in
        let below : v < actor_count (links_of s) p = omega (arith, within, have.many, many) in
        actor_is v e.0 actor below (joined v e.0 e.1) e.2;
    small = λ v actor at. let e = have.each v actor at in actor_small v e.0 actor few (joined v e.0 e.1) e.2;
  }
