-- A plain board on which all actors are at rest keeps the rules of the machine.
use Rattle.std.proofs.Common.{◌≡◌, ℕ, ◌+◌, ◌*◌, ◌/◌, ◌%◌, ◌<◌, ◌≤◌, ◌==◌, true, false, List, length, refl, sym, ◌∙◌, ap, subst, arith}
use Rattle.std.specs.Prelude.{Some, option_map, slice_get}
use Rattle.std.proofs.lemmas.Option.{same_Some}
use Rattle.lid_station.specs.Boards.{Facts, fill, drain}
use Rattle.lid_station.specs.Plain.{end_facts, plain_ends}
use Rattle.lid_station.specs.PlainLaws.{ends_even, ends_odd}
use Rattle.lid_station.specs.declared.pair.Pair.{Pair}
use Rattle.lid_stations.proofs.Spots.{stands_between}
use Rattle.lid_shell_laws.proofs.Ends.{filled_there}
use Rattle.lid_walk_machine.specs.Plans.{actors_of, stations_of, room_of, filler_of, cap}
use Rattle.lid_walk_machine.specs.Setups.{plan}
use Rattle.lid_shell_laws.specs.Setups.{Setup, IsSetup}
use Rattle.lid_walk_machine.specs.Machine.{State, in_count, out_count}
use Rattle.lid_walk_machine.specs.Laws.{KeepsPrefixes, IsSound}
use Rattle.lid_walk.specs.Walks.{IsBoard}
use Rattle.lid_walk.proofs.Serving.{filled_end, drained_end}
use Rattle.lid_base.proofs.Each.{each_length}
use Rattle.lid_base.proofs.Places.{item_at}

module _ (m : Setup) (rules : IsSetup m) (st : State) (pairs : List Pair) (board : IsBoard m st pairs) where
  -- what a station holds
  pub record IsCounted (station : ℕ) (p : Pair) : Type 0 where
    pub put : p.put ≡ in_count (plan m) st station
    pub taken : p.taken ≡ out_count (plan m) st station
    pub size : length p.places.items ≡ room_of (plan m) station

  pub counted_at : (station : ℕ) (p : Pair) → station < stations_of (plan m) → slice_get pairs station ≡ Some p → IsCounted station p
  counted_at station p h at_p =
      let f = filled_end m rules st (plain_ends pairs) board.agrees station h in
      let d = drained_end m rules st (plain_ends pairs) board.agrees station h in
      let shows_fill : plain_ends pairs (fill station) ≡ Some (end_facts true p) = ends_even pairs (fill station) station refl ∙ ap (option_map (end_facts true)) at_p in
      let shows_drain : plain_ends pairs (drain station) ≡ Some (end_facts false p) = ends_odd pairs (drain station) station refl ∙ ap (option_map (end_facts false)) at_p in
      let is_f = same_Some (end_facts true p) f.0 (sym shows_fill ∙ f.1) in
      let is_d = same_Some (end_facts false p) d.0 (sym shows_drain ∙ d.1) in
      let u = filler_of (plan m) station in
      let place = filled_there (plan m).links (plan m).placement u station h refl in
      let e = (board.agrees u (stands_between m.system m.placement rules.system rules.fits station h).filled).fills place.0 station place.1 in
      let is_e = same_Some (end_facts true p) e.0 (sym shows_fill ∙ e.1) in
      record {
        put = ap (λ (x : Facts). x.passed) is_f ∙ f.2;
        taken = ap (λ (x : Facts). x.passed) is_d ∙ d.2;
        size = ap (λ (x : Facts). x.cap) is_e ∙ e.2.capacity;
      }

  pub keeps_prefixes : (station : ℕ) → station < stations_of (plan m) → KeepsPrefixes (plan m) st station
  keeps_prefixes station h =
      let many = board.many in
      let (p, at_p) = item_at pairs station (omega (arith, h, many)) in
      let c = counted_at station p h at_p in
      let ordered = p.ordered in
      let within = p.within in
      let filled = (board.streams station p at_p).filled in
      let long = each_length ((plan m).token station) 0 (plan m).rows in
      record {
        ordered = omega (arith, ordered, c.put, c.taken);
        within = omega (arith, filled, long, c.put);
        few = omega (arith, within, c.put, c.taken, c.size);
      }

  pub sound_at_rest : ((v : ℕ) → v < actors_of (plan m) → (st v).position ≡ 0) → ((v : ℕ) → v < actors_of (plan m) → (st v).fired ≤ cap (plan m) v) → IsSound (plan m) st
  sound_at_rest rest capped = record {
    actors = λ v h. record {
      capped = capped v h;
      below = λ some. absurd (let r = rest v h in omega (arith, some, r));
      inside = λ some. absurd (let r = rest v h in omega (arith, some, r));
    };
    stations = keeps_prefixes;
    finds = λ v h. record {
      tokens = λ i within low past. absurd (let r = rest v h in omega (arith, low, r));
      rooms = λ j within low past. absurd (let r = rest v h in omega (arith, low, r));
    };
  }
