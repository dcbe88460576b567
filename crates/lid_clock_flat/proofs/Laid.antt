-- Stations and movers that were laid are those of a life as its first cycle begins.
use Rattle.std.proofs.Common.{◌≡◌, ℕ, ◌+◌, ◌%◌, ◌<◌, ◌≤◌, inl, inr, List, [], ◌∷◌, ◌++◌, length, get_or, take, refl, sym, ◌∙◌, ap, subst, arith}
use Rattle.std.proofs.Math.Nat.{mod-eq_of_lt}
use Rattle.std.specs.Prelude.{Some, slice_get}
use Rattle.std.proofs.lemmas.List.{length_push, length-append, get_or_append_left, get_or-append-add, get_or-take, length-take, length-take-le}
use Rattle.std.proofs.lemmas.Option.{slice_get_within, slice_get-get_or, get_or_from_slice_get}
use Rattle.lid_base.proofs.Places.{each_push, pushed_each, get_push, item_read}
use Rattle.lid_clock.specs.declared.actor.ClockActor.{ClockActor}
use Rattle.lid_clock.specs.declared.station.ClockStation.{ClockStation}
use Rattle.lid_clock.specs.Rules.{RunsGoByRules}
use Rattle.lid_clock.specs.Lives.{Life, IsLife, fired_after}
use Rattle.lid_clock.specs.States.{token_of_life, put_after, taken_after, IsStation, AreStations, AreActors}
use Rattle.lid_clock_flat.specs.declared.station.FlatStation.{FlatStation}
use Rattle.lid_clock_flat.specs.declared.stations.FlatStations.{FlatStations}
use Rattle.lid_clock_flat.specs.declared.mover.FlatMover.{FlatMover}
use Rattle.lid_clock_flat.specs.Rings.{around}
use Rattle.lid_clock_flat.specs.Layings.{IsFlattened, IsLaidLast, StandsFlat, AreFlattened, DrainSome, AreMoversOf}
use Rattle.lid_clock_flat.specs.Flats.{IsFlatAt, AreFlat, IsMover, AreMovers, AreNodesAt}
use Rattle.lid_clock_flat.proofs.Writes.{wrapped_cases}
use Rattle.lid_graph.specs.Firings.{firings}

module _ (stations : List ClockStation) (n : ℕ) (c : ClockStation) (old new : FlatStations) (was : AreFlattened stations n old) (at : slice_get stations n ≡ Some c) (last : IsLaidLast c old new) where
  longer : length new.places.items ≡ length old.places.items + length c.places
  longer = ap length last.places ∙ length-append old.places.items c.places

  new_is : IsFlattened (length old.places.items) c last.station
  new_is = last.is

  -- what was laid before stands as it did
  before : (s : ℕ) (y : FlatStation) → slice_get old.all.items s ≡ Some y → (d : ClockStation) × (slice_get stations s ≡ Some d) × StandsFlat new.places.items d y
  before s y here =
      let own = was.each s y here in
      let is = own.2.is in (
        own.0,
        own.1,
        record {
          is = is;
          tokens = λ i less.
              ap (λ (xs : List ℕ). get_or xs (y.base + i) 0) last.places
              ∙ get_or_append_left old.places.items c.places 0 (y.base + i) (omega (arith, was.apart.there s y here, is.cap))
              ∙ own.2.tokens i less;
        },
      )

  this : StandsFlat new.places.items c last.station
  this = record {
    is = subst (λ (b : ℕ). IsFlattened b c last.station) (sym new_is.base) new_is;
    tokens = λ i less.
        ap (λ (xs : List ℕ). get_or xs (last.station.base + i) 0) last.places
        ∙ ap (λ (b : ℕ). get_or (old.places.items ++ c.places) (b + i) 0) new_is.base
        ∙ get_or-append-add old.places.items c.places i 0;
  }

  within : (s : ℕ) (y : FlatStation) → slice_get new.all.items s ≡ Some y → y.base + y.cap ≤ length new.places.items
  within s y here = elim (get_push old.all.items last.station s y (subst (λ (xs : List FlatStation). slice_get xs s ≡ Some y) last.all here)) [
    | inl h ↦ omega (arith, was.apart.there s y h, longer)
    | inr h ↦ subst (λ (z : FlatStation). z.base + z.cap ≤ length new.places.items) (sym h.1) (omega (arith, new_is.base, new_is.cap, longer))
  ]

  own_places : (s t : ℕ) (y z : FlatStation) → slice_get new.all.items s ≡ Some y → slice_get new.all.items t ≡ Some z → s < t → y.base + y.cap ≤ z.base
  own_places s t y z here there less =
      elim (get_push old.all.items last.station s y (subst (λ (xs : List FlatStation). slice_get xs s ≡ Some y) last.all here)) [
        | inl h ↦ elim (get_push old.all.items last.station t z (subst (λ (xs : List FlatStation). slice_get xs t ≡ Some z) last.all there)) [
          | inl e ↦ was.apart.apart s t y z h e less
          | inr e ↦ subst (λ (w : FlatStation). y.base + y.cap ≤ w.base) (sym e.1) (omega (arith, was.apart.there s y h, new_is.base))
        ]
        | inr h ↦ (let more = slice_get_within new.all.items t z there in let many = ap length last.all ∙ length_push old.all.items last.station in absurd (omega (arith, h.0)))
      ]

  -- so one more is laid
  pub laid_next : AreFlattened stations (n + 1) new
  laid_next = record {
    many = ap length last.all ∙ length_push old.all.items last.station ∙ ap (λ (m : ℕ). m + 1) was.many;
    apart = record { there = within; apart = own_places };
    long = let few : length c.places ≤ 16 = c.few in omega (arith, was.long, longer);
    each = λ s y here.
        each_push (λ i w. (d : ClockStation) × (slice_get stations i ≡ Some d) × StandsFlat new.places.items d w) old.all.items last.station before
        (c, ap (slice_get stations) was.many ∙ at, this) s y (subst (λ (xs : List FlatStation). slice_get xs s ≡ Some y) last.all here);
  }

-- what was pushed is the last station
pub laid_last : (c : ClockStation) (old new : FlatStations) (y : FlatStation) → new.all.items ≡ old.all.items ++ y ∷ [] → new.places.items ≡ old.places.items ++ c.places
    → y.filler ≡ c.filler → y.drainer ≡ c.drainer → y.base ≡ length old.places.items → y.cap ≡ length c.places → y.head ≡ 0 → y.held ≡ c.put → IsLaidLast c old new
laid_last c old new y all places filler drainer base cap head held = record { station = y; is = record { filler = filler; drainer = drainer; base = base; cap = cap; head = head; held = held }; all = all; places = places }

-- one mover more
pub movers_next : (first v : ℕ) (actors : List ClockActor) (old new : List FlatMover) (a d : ClockActor) (m : FlatMover) → first ≤ v → AreMoversOf first v actors old → v < length actors → a ≡ get_or actors v a
    → m.station ≡ get_or a.ins.items 0 0 → m.fired ≡ 0 → new ≡ old ++ m ∷ [] → AreMoversOf first (v + 1) actors new
movers_next first v actors old new a d m past was within read station fired pushed = record {
  many = let long = ap length pushed ∙ length_push old m in omega (arith, was.many);
  each = pushed_each (λ j x. (b : ClockActor) × (slice_get actors (first + j) ≡ Some b) × (x.station ≡ get_or b.ins.items 0 0) × (x.fired ≡ 0)) old new m (length old) pushed refl was.each
      (a, ap (slice_get actors) was.many ∙ item_read actors v a within read, station, fired);
}

-- before the first cycle nobody has fired
pub none_fired : (l : Life) (v : ℕ) → fired_after l 0 v ≡ 0
unfolding firings
none_fired l v = refl

-- what stands among the first items stands there
pub first_at : {X : Type 0} (n : ℕ) (xs : List X) (i : ℕ) (x : X) → slice_get (take n xs) i ≡ Some x → slice_get xs i ≡ Some x
first_at n xs i x at =
    let within = slice_get_within (take n xs) i x at in
    let few = length-take n xs in
    slice_get-get_or xs i x (omega (arith, few))
    ∙ ap (λ y. Some y) (sym (get_or-take n xs i x (omega (arith, few))) ∙ get_or_from_slice_get (take n xs) i x x at)

module _ (r : RunsGoByRules) (l : Life) (life : IsLife l) where
  flat_one : (s : ℕ) (places : List ℕ) (c : ClockStation) (y : FlatStation) → IsStation l s (put_after l 0 s) (taken_after l 0 s) c → StandsFlat places c y → IsFlatAt l 0 s places y
  flat_one s places c y is stands =
      let none : taken_after l 0 s ≡ 0 = none_fired l _ in
      let put : c.put ≡ put_after l 0 s = is.put_is in
      let taken : c.taken ≡ taken_after l 0 s = is.taken_is in
      let laid = stands.is in
      let held : y.held ≡ c.put = laid.held in
      let size : y.cap ≡ length c.places = laid.cap in
      let within : c.put ≤ c.taken + length c.places = c.within in
      record {
        filled = laid.filler ∙ is.filled;
        drained = laid.drainer ∙ is.drained;
        size = size ∙ is.size;
        holds = omega arith;
        tokens = λ i less.
            let low : i < length c.places = omega arith in
            let place : around (y.head + i) y.cap ≡ i = elim (wrapped_cases (y.head + i) y.cap) [
              | inl h ↦ omega (arith, h.1, laid.head)
              | inr h ↦ absurd (omega (arith, h.0, laid.head))
            ] in
            let small : i % length c.places ≡ i = mod-eq_of_lt low in
            let number : i ≡ taken_after l 0 s + i = omega arith in
            ap (λ (n : ℕ). get_or places (y.base + n) 0) place
            ∙ stands.tokens i low
            ∙ ap (λ (n : ℕ). get_or c.places n 0) (sym small)
            ∙ is.tokens i (omega arith) (omega arith)
            ∙ ap (token_of_life l s) number;
      }

  -- all stations that were laid
  pub laid_flat : (stations : List ClockStation) (x : FlatStations) → AreStations l 0 stations → AreFlattened stations (length stations) x → AreFlat l 0 x.all.items x.places.items
  laid_flat stations x are laid = record {
    many = laid.many ∙ are.many;
    apart = laid.apart;
    each = λ s y at. let own = laid.each s y at in flat_one s x.places.items own.0 y (are.each s own.0 own.1) own.2;
  }

  -- a mover drains one station, and fills the next one
  pub drain_some : (g : ℕ) (actors : List ClockActor) → AreActors l 0 g actors → DrainSome (length l.setup.system.nodes) actors
  drain_some g actors are = record {
    there = let count = are.many in omega arith;
    some = λ v a past at.
        let is = are.each v a at in
        let moves = r.moves l.setup.system l.setup.placement v life.system life.fits past is.there in
        let one : length a.ins.items ≡ 1 = ap length is.drains ∙ ap length moves.1.drained in
        omega arith;
  }

  pub laid_movers : (g first : ℕ) (actors : List ClockActor) (movers : List FlatMover) → first ≡ length l.setup.system.nodes → AreActors l 0 g actors → AreMoversOf first (length actors) actors movers → AreMovers l 0 movers
  laid_movers g first actors movers from are laid = record {
    many = ap (λ (n : ℕ). n + length movers) (sym from) ∙ laid.many ∙ are.many;
    each = λ j m at.
        let own = laid.each j m at in
        let a : ClockActor = own.0 in
        let is = are.each (first + j) a own.1 in
        let past : length l.setup.system.nodes ≤ first + j = omega arith in
        let moves = r.moves l.setup.system l.setup.placement (first + j) life.system life.fits past is.there in
        let station : m.station ≡ moves.0 = own.2 ∙ ap (λ (xs : List ℕ). get_or xs 0 0) (is.drains ∙ moves.1.drained) in
        subst (λ (n : ℕ). IsMover l 0 (n + j) m) from (record {
          past = past;
          there = is.there;
          drains = moves.1.drained ∙ ap (λ (n : ℕ). n ∷ []) (sym station);
          fills = moves.1.filled ∙ ap (λ (n : ℕ). (n + 1) ∷ []) (sym station);
          fired_is = own.3 ∙ sym (none_fired l (first + j));
        });
  }

  -- the nodes are the first actors
  pub first_nodes : (g n : ℕ) (actors : List ClockActor) → n ≡ length l.setup.system.nodes → AreActors l 0 g actors → AreNodesAt l 0 g (take n actors)
  first_nodes g n actors is are = record {
    many = length-take-le n actors (let count = are.many in omega arith) ∙ is;
    each = λ v a at. are.each v a (first_at n actors v a at);
  }
