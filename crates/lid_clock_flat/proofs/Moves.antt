-- Movers of a life that fire, or rest.
use Rattle.std.proofs.Common.{◌≡◌, ℕ, suc, ◌+◌, ◌^◌, ◌<◌, ◌≤◌, inl, inr, true, false, List, [], ◌∷◌, length, set, refl, sym, ◌∙◌, ap, subst, arith}
use Rattle.std.specs.Prelude.{Some, slice_get}
use Rattle.std.proofs.lemmas.Option.{same_Some, slice_get_within}
use Rattle.lid_base.proofs.Places.{item_at}
use Rattle.lid_stations.specs.Placements.{links_of}
use Rattle.lid_stations.specs.Stations.{filler, drainer, capacity}
use Rattle.lid_shell_laws.specs.Rules.{MayFire, MayNotFire, HoldsFew}
use Rattle.lid_shell_laws.specs.Runs.{cap_of}
use Rattle.lid_shell_laws.proofs.Ends.{drained_is, filled_is, drained_there, filled_there}
use Rattle.lid_clock.specs.Rules.{RunsGoByRules}
use Rattle.lid_clock.specs.Lives.{Life, IsLife, fired_after}
use Rattle.lid_clock.specs.States.{ins_of, outs_of, token_of_life, put_after, taken_after, stations_of}
use Rattle.lid_clock.proofs.Made.{cap_late}
use Rattle.lid_clock.proofs.Tokens.{mover_next}
use Rattle.lid_clock_flat.specs.declared.station.FlatStation.{FlatStation}
use Rattle.lid_clock_flat.specs.declared.stations.FlatStations.{FlatStations}
use Rattle.lid_clock_flat.specs.declared.mover.FlatMover.{FlatMover}
use Rattle.lid_clock_flat.specs.Rings.{place_at, token_on}
use Rattle.lid_clock_flat.specs.Moves.{AreBeside, SeesNoBar, SeesBar, HasMoved}
use Rattle.lid_clock_flat.specs.Flats.{IsFlatAt, AreFlat, IsMover, MoverBegins, MoverDecided}
use Rattle.lid_clock_flat.proofs.Writes.{written, kept, free_kept, as_many}
use Rattle.lid_clock_flat.proofs.Keeping.{none_written}
use Rattle.lid_clock_flat.proofs.Firing.{oldest_is}
use borrow.Author.Clash.{clash}

-- what stands in a list of one
alone_in : (n m i : ℕ) → slice_get (n ∷ []) i ≡ Some m → m ≡ n
alone_in n m i at =
    let within : i < 1 = slice_get_within (n ∷ []) i m at in
    let first : i ≡ 0 = omega arith in
    sym (same_Some n m (subst (λ (j : ℕ). slice_get (n ∷ []) j ≡ Some m) first at))

module _ (r : RunsGoByRules) (l : Life) (k v : ℕ) (m : FlatMover) (x : FlatStations) (begins : MoverBegins l k v m x) where
  life : IsLife l
  life = begins.rules

  flat : AreFlat l k x.all.items x.places.items
  flat = begins.beside

  own : IsMover l k v m
  own = begins.mover

  in_first : slice_get (ins_of l v) 0 ≡ Some m.station
  in_first = ap (λ (xs : List ℕ). slice_get xs 0) own.drains

  out_first : slice_get (outs_of l v) 0 ≡ Some (m.station + 1)
  out_first = ap (λ (xs : List ℕ). slice_get xs 0) own.fills

  in_there : (m.station < stations_of l) × (drainer (links_of l.setup.system) l.setup.placement m.station ≡ v)
  in_there = drained_is (links_of l.setup.system) l.setup.placement v 0 m.station in_first

  out_there : (m.station + 1 < stations_of l) × (filler (links_of l.setup.system) l.setup.placement (m.station + 1) ≡ v)
  out_there = filled_is (links_of l.setup.system) l.setup.placement v 0 (m.station + 1) out_first

  -- its stations exist
  pub beside : AreBeside m x.all.items
  beside = omega (arith, out_there.0, flat.many)

  from : (y : FlatStation) × (slice_get x.all.items m.station ≡ Some y)
  from = item_at x.all.items m.station (omega (arith, beside))

  to : (y : FlatStation) × (slice_get x.all.items (m.station + 1) ≡ Some y)
  to = item_at x.all.items (m.station + 1) beside

  from_is : IsFlatAt l k m.station x.places.items from.0
  from_is = flat.each m.station from.0 from.1

  to_is : IsFlatAt l k (m.station + 1) x.places.items to.0
  to_is = flat.each (m.station + 1) to.0 to.1

  taken_is : taken_after l k m.station ≡ fired_after l k v
  taken_is = ap (fired_after l k) in_there.1

  -- it drains that station alone
  drains_one : (station : ℕ) → station < stations_of l → drainer (links_of l.setup.system) l.setup.placement station ≡ v → station ≡ m.station
  drains_one station there drains =
      let place = drained_there (links_of l.setup.system) l.setup.placement v station there drains in
      alone_in m.station station place.0 (subst (λ (xs : List ℕ). slice_get xs place.0 ≡ Some station) own.drains place.1)

  fills_one : (station : ℕ) → station < stations_of l → filler (links_of l.setup.system) l.setup.placement station ≡ v → station ≡ m.station + 1
  fills_one station there fills =
      let place = filled_there (links_of l.setup.system) l.setup.placement v station there fills in
      alone_in (m.station + 1) station place.0 (subst (λ (xs : List ℕ). slice_get xs place.0 ≡ Some station) own.fills place.1)

  cap_is : cap_of (links_of l.setup.system) (length l.setup.input) v ≡ length l.setup.input
  cap_is = let past : length l.setup.system.nodes ≤ v = own.past in cap_late l v (omega arith)

  -- where a token waits, it is below its cap
  below : 0 < (from.0).held → fired_after l k v < length l.setup.input
  below some =
      let few : HoldsFew (links_of l.setup.system) l.setup.placement (length l.setup.input) (fired_after l k) m.station = r.few l.setup.system l.setup.placement (length l.setup.input) l.hold k m.station life.system life.fits in_there.0 in
      let most : put_after l k m.station ≤ length l.setup.input = few.few in
      omega (arith, some, most, from_is.holds, taken_is)

  may_fire : SeesNoBar m x.all.items → MayFire (links_of l.setup.system) l.setup.placement (length l.setup.input) (fired_after l k) v
  may_fire clear =
      let some : 0 < (from.0).held = clear.some from.0 from.1 in
      let room : (to.0).held < (to.0).cap = clear.room to.0 to.1 in
      record {
        below = omega (arith, below some, cap_is);
        tokens = λ station there drains.
            subst (λ (s : ℕ). taken_after l k s < put_after l k s) (sym (drains_one station there drains)) (omega (arith, some, from_is.holds));
        room = λ station there fills.
            subst (λ (s : ℕ). put_after l k s < taken_after l k s + capacity l.setup.placement s) (sym (fills_one station there fills)) (omega (arith, room, to_is.holds, to_is.size));
      }

  may_not_fire : SeesBar m x.all.items → MayNotFire (links_of l.setup.system) l.setup.placement (length l.setup.input) (fired_after l k) v
  may_not_fire (inl void) =
      let none : (from.0).held ≡ 0 = void from.0 from.1 in
      inr (inl (record { station = m.station; there = in_there.0; drains = in_there.1; void = omega (arith, none, from_is.holds) }))
  may_not_fire (inr stop) =
      let full : (to.0).held ≡ (to.0).cap = stop to.0 to.1 in
      inr (inr (record { station = m.station + 1; there = out_there.0; fills = out_there.1; stop = omega (arith, full, to_is.holds, to_is.size) }))

  -- it fires so rarely that it can be counted
  pub few_fired : m.fired + 1 < 2 ^ 32
  few_fired =
      let few : HoldsFew (links_of l.setup.system) l.setup.placement (length l.setup.input) (fired_after l k) m.station = r.few l.setup.system l.setup.placement (length l.setup.input) l.hold k m.station life.system life.fits in_there.0 in
      let most : put_after l k m.station ≤ length l.setup.input = few.few in
      let rows : length l.setup.input ≤ 1000000 = life.few in
      omega (arith, most, from_is.holds, taken_is, own.fired_is)

  -- the token that it moves on is the one that the next station wants
  token_is : 0 < (from.0).held → token_on x.places.items from.0 0 ≡ token_of_life l (m.station + 1) (put_after l k (m.station + 1))
  token_is some =
      let moves = r.moves l.setup.system l.setup.placement v life.system life.fits own.past own.there in
      let station : moves.0 ≡ m.station = alone_in m.station moves.0 0 (ap (λ (xs : List ℕ). slice_get xs 0) (sym own.drains ∙ moves.1.drained)) in
      let same : token_of_life l (m.station + 1) (fired_after l k v) ≡ token_of_life l m.station (fired_after l k v) =
      subst (λ (s : ℕ). token_of_life l (s + 1) (fired_after l k v) ≡ token_of_life l s (fired_after l k v)) station (moves.1.tokens l.setup.table (fired_after l k v)) in
      oldest_is l k m.station x.places.items from.0 from_is some
      ∙ ap (token_of_life l m.station) taken_is
      ∙ sym same
      ∙ ap (token_of_life l (m.station + 1)) (mover_next r l k v (m.station + 1) life own.past out_there.0 out_there.1)

  -- a mover that fires
  pub mover_fired : (new : FlatMover) (y : FlatStations) → SeesNoBar m x.all.items → HasMoved m x new y → MoverDecided l k v true new x y
  mover_fired new y clear moved =
      let some : 0 < (from.0).held = clear.some from.0 from.1 in
      let room : (to.0).held < (to.0).cap = clear.room to.0 to.1 in
      let goes : fired_after l (suc k) v ≡ fired_after l k v + 1 = r.fires l.setup.system l.setup.placement (length l.setup.input) l.hold k v life.system life.fits own.there begins.free (may_fire clear) in
      let is : y.places.items ≡ set x.places.items (place_at to.0 (to.0).held) (token_on x.places.items from.0 0) = moved.places from.0 to.0 from.1 to.1 in
      let same : y.all.items ≡ x.all.items = ap (λ b. b.items) moved.all in
      record {
        mover = record {
          past = own.past;
          there = own.there;
          drains = own.drains ∙ ap (λ (n : ℕ). n ∷ []) (sym moved.station);
          fills = own.fills ∙ ap (λ (n : ℕ). (n + 1) ∷ []) (sym moved.station);
          fired_is = moved.fired ∙ ap (λ (n : ℕ). n + 1) own.fired_is ∙ sym goes;
        };
        steps = record {
          chose = record { goes = λ _. goes; rests = λ h. clash true refl h };
          alone = record {
            all = moved.all;
            many = as_many x.all.items x.places.items y.places.items (m.station + 1) _ to.0 flat.apart to.1 room is;
            kept = kept x.all.items x.places.items y.places.items (m.station + 1) _ to.0 flat.apart to.1 room is;
            free = λ s z at other.
                free_kept x.all.items x.places.items y.places.items (m.station + 1) _ to.0 flat.apart to.1 room is s z at
                (λ e. other ((flat.each s z at).filled ∙ ap (filler (links_of l.setup.system) l.setup.placement) e ∙ out_there.1));
          };
          offers = λ _ s z at fills.
              let here : slice_get x.all.items s ≡ Some z = subst (λ (xs : List FlatStation). slice_get xs s ≡ Some z) same at in
              let within = slice_get_within x.all.items s z here in
              let there : s < stations_of l = omega (arith, flat.many) in
              let next : s ≡ m.station + 1 = fills_one s there (sym (flat.each s z here).filled ∙ fills) in
              let one : to.0 ≡ z = same_Some to.0 z (sym to.1 ∙ ap (slice_get x.all.items) (sym next) ∙ here) in
              subst (λ (n : ℕ). token_on y.places.items z z.held ≡ token_of_life l n (put_after l k n)) (sym next)
              (subst (λ (w : FlatStation). token_on y.places.items w w.held ≡ token_of_life l (m.station + 1) (put_after l k (m.station + 1))) one
              (written x.all.items x.places.items y.places.items (m.station + 1) _ to.0 flat.apart to.1 room is ∙ token_is some));
        };
        bars = λ e. clash true refl e;
      }

  -- a mover that may not fire
  pub mover_rested : SeesBar m x.all.items → MoverDecided l k v false m x x
  mover_rested bar =
      let rests : fired_after l (suc k) v ≡ fired_after l k v = r.rests l.setup.system l.setup.placement (length l.setup.input) l.hold k v life.system life.fits own.there (inr (may_not_fire bar)) in
      record {
        mover = record { past = own.past; there = own.there; drains = own.drains; fills = own.fills; fired_is = own.fired_is ∙ sym rests };
        steps = record {
          chose = record { goes = λ h. clash false h refl; rests = λ _. rests };
          alone = none_written v x;
          offers = λ h. clash false h refl;
        };
        bars = λ _. may_not_fire bar;
      }
