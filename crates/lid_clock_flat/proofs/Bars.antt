-- What a node of a life sees of its stations is what the rule of firing asks.
use Rattle.std.proofs.Common.{◌≡◌, ℕ, ◌+◌, ◌<◌, ◌≤◌, inl, inr, List, length, get_or, sym, ◌∙◌, ap, subst, arith}
use Rattle.std.specs.Prelude.{Some, slice_get}
use Rattle.lid_base.proofs.Places.{item_at}
use Rattle.lid_stations.specs.Placements.{links_of}
use Rattle.lid_stations.specs.Stations.{capacity}
use Rattle.lid_shell_laws.specs.Runs.{cap_of}
use Rattle.lid_shell_laws.specs.Rules.{MayFire, MayNotFire, FindsVoid, FindsStop}
use Rattle.lid_shell_laws.proofs.Ends.{drained_is, filled_is, drained_there, filled_there, filled_place}
use Rattle.lid_clock.specs.declared.actor.ClockActor.{ClockActor}
use Rattle.lid_clock.specs.Lives.{Life, fired_after}
use Rattle.lid_clock.specs.States.{ins_of, outs_of, put_after, taken_after, stations_of, IsActor}
use Rattle.lid_clock.proofs.Bars.{stands, reads_own}
use Rattle.lid_clock_flat.specs.declared.station.FlatStation.{FlatStation}
use Rattle.lid_clock_flat.specs.Reads.{AreReadOnce, IsReadAt, OneIsEmpty, OneIsFull}
use Rattle.lid_clock_flat.specs.Nodes.{SeesStations, SeesNoBar, SeesBar}
use Rattle.lid_clock_flat.specs.Flats.{IsFlatAt, AreFlat}

-- a station that is read at a place
pub record IsRead (l : Life) (k : ℕ) (reads : List ℕ) (all : List FlatStation) (places : List ℕ) (place number : ℕ) : Type 0 where
  pub within : place < length reads
  pub station : FlatStation
  pub at : IsReadAt reads all place station
  pub is : IsFlatAt l k number places station

module _ (l : Life) (k : ℕ) (all : List FlatStation) (places : List ℕ) (flat : AreFlat l k all places) where
  -- the station of a number
  pub at_station : (station : ℕ) → station < stations_of l → (x : FlatStation) × (slice_get all station ≡ Some x)
  at_station station there = let many = flat.many in item_at all station (omega arith)

  pub read_at : (reads own : List ℕ) (place number : ℕ) → reads ≡ own → slice_get own place ≡ Some number → number < stations_of l → IsRead l k reads all places place number
  read_at reads own place number same stated there =
      let read = stands reads own place number same stated in
      let here = at_station number there in
      record { within = read.0; station = here.0; at = ap (λ (n : ℕ). slice_get all n) read.1 ∙ here.1; is = flat.each number here.0 here.1 }

  module _ (g v fired : ℕ) (a : ClockActor) (actor : IsActor l g v fired a) where
    in_is : (i : ℕ) → i < length a.ins.items → slice_get (ins_of l v) i ≡ Some (get_or a.ins.items i 0)
    in_is i within = reads_own a.ins.items (ins_of l v) i actor.drains within

    out_is : (i : ℕ) → i < length a.outs.items → slice_get (outs_of l v) i ≡ Some (get_or a.outs.items i 0)
    out_is i within = reads_own a.outs.items (outs_of l v) i actor.fills within

    -- the stations of a node exist
    pub sees : SeesStations a all
    sees = record {
      ins = λ i within. let own = drained_is (links_of l.setup.system) l.setup.placement v i _ (in_is i within) in omega (arith, own.0, flat.many);
      outs = λ i within. let own = filled_is (links_of l.setup.system) l.setup.placement v i _ (out_is i within) in omega (arith, own.0, flat.many);
    }

    -- and it fills none twice
    pub fills_once : AreReadOnce a.outs.items
    fills_once i j less low same =
        sym (filled_place (links_of l.setup.system) l.setup.placement v i (get_or a.outs.items i 0) (out_is i less))
        ∙ filled_place (links_of l.setup.system) l.setup.placement v j (get_or a.outs.items i 0) (subst (λ (n : ℕ). slice_get (outs_of l v) j ≡ Some n) (sym same) (out_is j low))

  module _ (g v : ℕ) (a : ClockActor) (actor : IsActor l g v (fired_after l k v) a) where
    -- where a node sees no bar, it may fire
    pub may_fire : SeesNoBar a all → MayFire (links_of l.setup.system) l.setup.placement (length l.setup.input) (fired_after l k) v
    may_fire clear = record {
      below = subst (λ (n : ℕ). n < cap_of (links_of l.setup.system) (length l.setup.input) v) actor.fired_is (subst (λ (n : ℕ). a.fired < n) actor.capped clear.below);
      tokens = λ station there drains.
          let place = drained_there (links_of l.setup.system) l.setup.placement v station there drains in
          let read = read_at a.ins.items (ins_of l v) place.0 station actor.drains place.1 there in
          let some : 0 < read.station.held = clear.hold place.0 read.within read.station read.at in
          let holds : put_after l k station ≡ taken_after l k station + read.station.held = read.is.holds in
          omega arith;
      room = λ station there fills.
          let place = filled_there (links_of l.setup.system) l.setup.placement v station there fills in
          let read = read_at a.outs.items (outs_of l v) place.0 station actor.fills place.1 there in
          let free : read.station.held < read.station.cap = clear.room place.0 read.within read.station read.at in
          let holds : put_after l k station ≡ taken_after l k station + read.station.held = read.is.holds in
          let size : read.station.cap ≡ capacity l.setup.placement station = read.is.size in
          omega arith;
    }

    finds_void : OneIsEmpty a.ins.items all → FindsVoid (links_of l.setup.system) l.setup.placement (length l.setup.input) (fired_after l k) v
    finds_void one =
        let station : ℕ = get_or a.ins.items one.place 0 in
        let own = drained_is (links_of l.setup.system) l.setup.placement v one.place station (in_is g v (fired_after l k v) a actor one.place one.within) in
        let is : IsFlatAt l k station places one.station = flat.each station one.station one.is in
        let holds : put_after l k station ≡ taken_after l k station + one.station.held = is.holds in
        let none : one.station.held ≡ 0 = one.so in
        record { station = station; there = own.0; drains = own.1; void = omega arith }

    finds_stop : OneIsFull a.outs.items all → FindsStop (links_of l.setup.system) l.setup.placement (length l.setup.input) (fired_after l k) v
    finds_stop one =
        let station : ℕ = get_or a.outs.items one.place 0 in
        let own = filled_is (links_of l.setup.system) l.setup.placement v one.place station (out_is g v (fired_after l k v) a actor one.place one.within) in
        let is : IsFlatAt l k station places one.station = flat.each station one.station one.is in
        let holds : put_after l k station ≡ taken_after l k station + one.station.held = is.holds in
        let full : one.station.held ≡ one.station.cap = one.so in
        let size : one.station.cap ≡ capacity l.setup.placement station = is.size in
        record { station = station; there = own.0; fills = own.1; stop = omega arith }

    -- where it sees one, it may not
    pub may_not_fire : SeesBar a all → MayNotFire (links_of l.setup.system) l.setup.placement (length l.setup.input) (fired_after l k) v
    may_not_fire (inl at_cap) =
        inl (subst (λ (n : ℕ). cap_of (links_of l.setup.system) (length l.setup.input) v ≤ n) actor.fired_is (subst (λ (n : ℕ). n ≤ a.fired) actor.capped at_cap))
    may_not_fire (inr (inl void)) = inr (inl (finds_void void))
    may_not_fire (inr (inr stop)) = inr (inr (finds_stop stop))
