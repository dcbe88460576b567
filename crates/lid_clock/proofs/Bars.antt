-- What an actor of a life sees of its stations is what the rule of firing asks.
use Rattle.std.proofs.Common.{◌≡◌, ℕ, ◌+◌, ◌<◌, ◌≤◌, inl, inr, List, length, get_or, sym, ◌∙◌, ap, subst, arith}
use Rattle.std.specs.Prelude.{Some, slice_get}
use Rattle.std.proofs.lemmas.Option.{slice_get_within, slice_get-get_or, get_or_from_slice_get}
use Rattle.lid_stations.specs.Placements.{links_of}
use Rattle.lid_stations.specs.Stations.{capacity}
use Rattle.lid_shell_laws.specs.Runs.{cap_of}
use Rattle.lid_shell_laws.specs.Rules.{MayFire, MayNotFire, FindsVoid, FindsStop}
use Rattle.lid_clock.specs.declared.actor.ClockActor.{ClockActor}
use Rattle.lid_clock.specs.declared.station.ClockStation.{ClockStation}
use Rattle.lid_clock.specs.Rings.{IsStationAt, OneIsEmpty, OneIsFull}
use Rattle.lid_clock.specs.Actors.{SeesStations, SeesNoBar, SeesBar}
use Rattle.lid_clock.specs.Lives.{Life, fired_after}
use Rattle.lid_clock.specs.States.{ins_of, outs_of, put_after, taken_after, stations_of, IsStation, AreStations, IsActor}
use Rattle.lid_shell_laws.proofs.Ends.{drained_is, filled_is, drained_there, filled_there}
use Rattle.lid_base.proofs.Places.{item_at}

-- what stands at a place of two equal lists
pub stands : (reads own : List ℕ) (i station : ℕ) → reads ≡ own → slice_get own i ≡ Some station → (i < length reads) × (get_or reads i 0 ≡ station)
stands reads own i station same at =
    let there : slice_get reads i ≡ Some station = subst (λ (xs : List ℕ). slice_get xs i ≡ Some station) (sym same) at in
    (slice_get_within reads i station there, get_or_from_slice_get reads i station 0 there)

-- what is read at a place stands there
pub reads_own : (reads own : List ℕ) (i : ℕ) → reads ≡ own → i < length reads → slice_get own i ≡ Some (get_or reads i 0)
reads_own reads own i same within = subst (λ (xs : List ℕ). slice_get xs i ≡ Some (get_or reads i 0)) same (slice_get-get_or reads i 0 within)

-- the stations of an actor exist
pub sees : (l : Life) (k g v fired : ℕ) (a : ClockActor) (stations : List ClockStation) → IsActor l g v fired a → AreStations l k stations → SeesStations a stations
sees l k g v fired a stations actor beside =
    record {
      ins = λ i within.
          let is = drained_is (links_of l.setup.system) l.setup.placement v i _ (reads_own a.ins.items (ins_of l v) i actor.drains within) in
          let low : get_or a.ins.items i 0 < stations_of l = is.0 in
          let many : length stations ≡ stations_of l = beside.many in
          omega arith;
      outs = λ i within.
          let is = filled_is (links_of l.setup.system) l.setup.placement v i _ (reads_own a.outs.items (outs_of l v) i actor.fills within) in
          let low : get_or a.outs.items i 0 < stations_of l = is.0 in
          let many : length stations ≡ stations_of l = beside.many in
          omega arith;
    }

-- the station of a number
at_station : (l : Life) (k station : ℕ) (stations : List ClockStation) → AreStations l k stations → station < stations_of l → (x : ClockStation) × (slice_get stations station ≡ Some x)
at_station l k station stations beside there =
    let many : length stations ≡ stations_of l = beside.many in
    item_at stations station (omega arith)

-- a station that is read at a place
pub record IsRead (l : Life) (k : ℕ) (reads : List ℕ) (stations : List ClockStation) (place number : ℕ) : Type 0 where
  pub within : place < length reads
  pub station : ClockStation
  pub at : IsStationAt reads stations place station
  pub is : IsStation l number (put_after l k number) (taken_after l k number) station

pub read_at : (l : Life) (k place number : ℕ) (reads own : List ℕ) (stations : List ClockStation) → reads ≡ own → slice_get own place ≡ Some number → AreStations l k stations → number < stations_of l → IsRead l k reads stations place number
read_at l k place number reads own stations same stated beside there =
    let read = stands reads own place number same stated in
    let here = at_station l k number stations beside there in
    record { within = read.0; station = here.0; at = ap (λ (n : ℕ). slice_get stations n) read.1 ∙ here.1; is = beside.each number here.0 here.1 }

-- where an actor sees no bar, it may fire
pub may_fire : (l : Life) (k g v : ℕ) (a : ClockActor) (stations : List ClockStation) → IsActor l g v (fired_after l k v) a → AreStations l k stations → SeesNoBar a stations
    → MayFire (links_of l.setup.system) l.setup.placement (length l.setup.input) (fired_after l k) v
may_fire l k g v a stations actor beside clear =
    record {
      below = subst (λ (n : ℕ). n < cap_of (links_of l.setup.system) (length l.setup.input) v) actor.fired_is (subst (λ (n : ℕ). a.fired < n) actor.capped clear.below);
      tokens = λ station there drains.
          let place = drained_there (links_of l.setup.system) l.setup.placement v station there drains in
          let read = read_at l k place.0 station a.ins.items (ins_of l v) stations actor.drains place.1 beside there in
          let x = read.station in
          let some : x.taken < x.put = clear.hold place.0 read.within x read.at in
          subst (λ (n : ℕ). n < put_after l k station) read.is.taken_is (subst (λ (n : ℕ). x.taken < n) read.is.put_is some);
      room = λ station there fills.
          let place = filled_there (links_of l.setup.system) l.setup.placement v station there fills in
          let read = read_at l k place.0 station a.outs.items (outs_of l v) stations actor.fills place.1 beside there in
          let x = read.station in
          let some : x.put < x.taken + length x.places = clear.room place.0 read.within x read.at in
          subst (λ (n : ℕ). n < taken_after l k station + capacity l.setup.placement station) read.is.put_is
          (subst (λ (n : ℕ). x.put < n + capacity l.setup.placement station) read.is.taken_is
          (subst (λ (n : ℕ). x.put < x.taken + n) read.is.size some));
    }

finds_void : (l : Life) (k g v : ℕ) (a : ClockActor) (stations : List ClockStation) → IsActor l g v (fired_after l k v) a → AreStations l k stations → OneIsEmpty a.ins.items stations
    → FindsVoid (links_of l.setup.system) l.setup.placement (length l.setup.input) (fired_after l k) v
finds_void l k g v a stations actor beside one =
    let station : ℕ = get_or a.ins.items one.place 0 in
    let own = drained_is (links_of l.setup.system) l.setup.placement v one.place station (reads_own a.ins.items (ins_of l v) one.place actor.drains one.within) in
    let is : IsStation l station (put_after l k station) (taken_after l k station) one.station = beside.each station one.station one.is in
    record {
      station = station;
      there = own.0;
      drains = own.1;
      void = subst (λ (n : ℕ). n ≤ taken_after l k station) is.put_is (subst (λ (n : ℕ). one.station.put ≤ n) is.taken_is one.so);
    }

finds_stop : (l : Life) (k g v : ℕ) (a : ClockActor) (stations : List ClockStation) → IsActor l g v (fired_after l k v) a → AreStations l k stations → OneIsFull a.outs.items stations
    → FindsStop (links_of l.setup.system) l.setup.placement (length l.setup.input) (fired_after l k) v
finds_stop l k g v a stations actor beside one =
    let station : ℕ = get_or a.outs.items one.place 0 in
    let own = filled_is (links_of l.setup.system) l.setup.placement v one.place station (reads_own a.outs.items (outs_of l v) one.place actor.fills one.within) in
    let is : IsStation l station (put_after l k station) (taken_after l k station) one.station = beside.each station one.station one.is in
    record {
      station = station;
      there = own.0;
      fills = own.1;
      stop =
          subst (λ (n : ℕ). taken_after l k station + capacity l.setup.placement station ≤ n) is.put_is
          (subst (λ (n : ℕ). n + capacity l.setup.placement station ≤ one.station.put) is.taken_is
          (subst (λ (n : ℕ). one.station.taken + n ≤ one.station.put) is.size one.so));
    }

-- where it sees one, it may not
pub may_not_fire : (l : Life) (k g v : ℕ) (a : ClockActor) (stations : List ClockStation) → IsActor l g v (fired_after l k v) a → AreStations l k stations → SeesBar a stations
    → MayNotFire (links_of l.setup.system) l.setup.placement (length l.setup.input) (fired_after l k) v
may_not_fire l k g v a stations actor beside (inl at_cap) =
    inl (subst (λ (n : ℕ). cap_of (links_of l.setup.system) (length l.setup.input) v ≤ n) actor.fired_is (subst (λ (n : ℕ). n ≤ a.fired) actor.capped at_cap))
may_not_fire l k g v a stations actor beside (inr (inl void)) = inr (inl (finds_void l k g v a stations actor beside void))
may_not_fire l k g v a stations actor beside (inr (inr stop)) = inr (inr (finds_stop l k g v a stations actor beside stop))
