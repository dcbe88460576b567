-- Actors and a board that agree are in a state that keeps the rules of the machine.
use Rattle.std.proofs.Common.{◌≡◌, ℕ, ◌<◌, true, false, List, length, arith}
use Rattle.std.specs.Prelude.{Some, slice_get}
use Rattle.std.proofs.lemmas.Option.{slice_get-get_or}
use Rattle.lid_station.specs.Boards.{fill, drain}
use Rattle.lid_station.specs.Plain.{end_facts}
use Rattle.lid_station.specs.declared.pair.Pair.{Pair}
use Rattle.lid_walk_machine.specs.Plans.{actors_of, stations_of, ins_of, outs_of, room_of}
use Rattle.lid_walk_machine.specs.Setups.{plan}
use Rattle.lid_shell_laws.specs.Setups.{Setup, IsSetup}
use Rattle.lid_walk_machine.specs.Machine.{State, in_at, out_at, in_count, out_count}
use Rattle.lid_walk_machine.specs.Laws.{KeepsPrefixes, IsWithin, FindsStay, IsSound}
use Rattle.lid_walk_machine.proofs.Places.{drains_at, fills_at}
use Rattle.lid_shell.specs.declared.actor.Actor.{Actor}
use Rattle.lid_shell.specs.Boards.{IsDrainedBy, IsFilledBy}
use Rattle.lid_walk.specs.Actors.{AreActors}
use Rattle.lid_walk.specs.Walks.{IsBoard}
use Rattle.lid_walk.proofs.Counting.{shows_fill, shows_drain, told, put_is, taken_is, size_is}
use Rattle.lid_base.proofs.Each.{each_length}
use Rattle.lid_base.proofs.Places.{item_at}

module _ (m : Setup) (st : State) (rules : IsSetup m) (actors : List Actor) (are : AreActors m st actors) (pairs : List Pair) (board : IsBoard m st pairs) where
  -- the pair of a station, which counts as the state does
  record IsCounted (station : ℕ) : Type 0 where
    pair : Pair
    there : slice_get pairs station ≡ Some pair
    put : pair.put ≡ in_count (plan m) st station
    taken : pair.taken ≡ out_count (plan m) st station
    size : length pair.places.items ≡ room_of (plan m) station

  counted : (station : ℕ) → station < stations_of (plan m) → IsCounted station
  counted station h =
      let (p, there) = item_at pairs station (omega (arith, h, board.many)) in
      record {
        pair = p;
        there = there;
        put = put_is m st rules pairs board station p there;
        taken = taken_is m st rules pairs board station p there;
        size = size_is m st rules pairs board station p there;
      }

  is_within : (v : ℕ) → v < actors_of (plan m) → IsWithin (plan m) st v
  is_within v h =
      let a = item_at actors v (omega (arith, h, are.many)) in
      let far = (are.each v a.0 a.1).far in
      record { capped = far.capped; below = far.below; inside = far.inside }

  keeps : (station : ℕ) → station < stations_of (plan m) → KeepsPrefixes (plan m) st station
  keeps station h =
      let x = counted station h in
      let long = each_length ((plan m).token station) 0 (plan m).rows in
      let filled = (board.streams station x.pair x.there).filled in
      let ordered = x.pair.ordered in
      let most = x.pair.within in
      record {
        ordered = omega (arith, x.put, x.taken, ordered);
        within = omega (arith, x.put, filled, long);
        few = omega (arith, x.put, x.taken, x.size, most);
      }

  stay : (v : ℕ) → v < actors_of (plan m) → FindsStay (plan m) st v
  stay v h = record {
    tokens = λ i listed passed early.
        let station = in_at (plan m) v i in
        let x = counted station (drains_at (plan m) v i listed).there in
        let e = told pairs (drain station) (end_facts false x.pair) (IsDrainedBy m v (st v) i station) (shows_drain pairs station x.pair x.there) ((board.agrees v h).drains i station (slice_get-get_or (ins_of (plan m) v) i 0 listed)) in
        let more = x.pair.token_there (e.seen passed early) in
        omega (arith, x.put, x.taken, more);
    rooms = λ j listed passed early.
        let station = out_at (plan m) v j in
        let x = counted station (fills_at (plan m) v j listed).there in
        let e = told pairs (fill station) (end_facts true x.pair) (IsFilledBy m v (st v) j station) (shows_fill pairs station x.pair x.there) ((board.agrees v h).fills j station (slice_get-get_or (outs_of (plan m) v) j 0 listed)) in
        let more = x.pair.room_there (e.seen passed early) in
        omega (arith, x.put, x.taken, x.size, more);
  }

  pub is_sound : IsSound (plan m) st
  is_sound = record { actors = is_within; stations = keeps; finds = stay }
