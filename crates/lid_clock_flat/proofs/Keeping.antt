-- Stations while actors decide, one after the other: each writes into the free places of the stations that it fills.
use Rattle.std.proofs.Common.{◌≡◌, ◌≢◌, ℕ, ◌+◌, Bool, true, List, length, set, refl, sym, ◌∙◌, ap, subst, arith, length-set}
use Rattle.std.specs.Prelude.{Some, slice_get}
use Rattle.lid_base.proofs.Places.{set_here, set_there}
use Rattle.lid_clock.specs.Lives.{Life}
use Rattle.lid_clock.specs.States.{actors_of}
use Rattle.lid_clock_flat.specs.declared.station.FlatStation.{FlatStation}
use Rattle.lid_clock_flat.specs.declared.stations.FlatStations.{FlatStations}
use Rattle.lid_clock_flat.specs.Rings.{RingsAreApart}
use Rattle.lid_clock_flat.specs.Flats.{IsFlatAt, AreFlat, Chose, Offers, WritesAlone, HaveDecided, StationsStep}
use Rattle.lid_clock_flat.proofs.Writes.{apart_over}
use mathlib.Core.Logic.{dite}
use native.Mathlib.Decide.{ℕ_discrete}

-- who writes nothing writes alone
pub none_written : (v : ℕ) (x : FlatStations) → WritesAlone v x x
none_written v x = record { all = refl; many = refl; kept = λ s n y at less. refl; free = λ s y at other. refl }

module _ (l : Life) (k v : ℕ) (old new : FlatStations) (alone : WritesAlone v old new) where
  -- the same stations
  stations_same : new.all.items ≡ old.all.items
  stations_same = ap (λ a. a.items) alone.all

  was_there : (s : ℕ) (y : FlatStation) → slice_get new.all.items s ≡ Some y → slice_get old.all.items s ≡ Some y
  was_there s y at = subst (λ (xs : List FlatStation). slice_get xs s ≡ Some y) stations_same at

  flat_at : RingsAreApart old.all.items old.places.items → (s : ℕ) (y : FlatStation) → slice_get old.all.items s ≡ Some y → IsFlatAt l k s old.places.items y → IsFlatAt l k s new.places.items y
  flat_at apart s y at is = record {
    filled = is.filled;
    drained = is.drained;
    size = is.size;
    holds = is.holds;
    tokens = λ i less. alone.kept s i y at less ∙ is.tokens i less;
  }

  -- all stations are still those of the life
  pub flat_kept : AreFlat l k old.all.items old.places.items → AreFlat l k new.all.items new.places.items
  flat_kept flat = record {
    many = ap length stations_same ∙ flat.many;
    apart = subst (λ (xs : List FlatStation). RingsAreApart xs new.places.items) (sym stations_same) (apart_over old.all.items old.places.items new.places.items flat.apart alone.many);
    each = λ s y at. flat_at flat.apart s y (was_there s y at) (flat.each s y (was_there s y at));
  }

  -- and what another actor put still stands there
  pub offers_kept : (u : ℕ) → Offers l k u old → u ≢ v → Offers l k u new
  offers_kept u offers other s y at fills =
      alone.free s y (was_there s y at) (λ same. other (sym fills ∙ same)) ∙ offers s y (was_there s y at) fills

-- one actor more has decided
pub decided_next : (l : Life) (k n : ℕ) (w : Bool) (old new : FlatStations) (went : List Bool) → HaveDecided l k n old went → StationsStep l k n w old new → HaveDecided l k (n + 1) new (set went n w)
decided_next l k n w old new went have steps = record {
  many = length-set went n w ∙ have.many;
  flat = flat_kept l k n old new steps.alone have.flat;
  chose = λ v b less at.
      dite (ℕ_discrete v n)
      (λ same.
      let is : w ≡ b = set_here went n w b (subst (λ (u : ℕ). slice_get (set went n w) u ≡ Some b) same at) in
      subst (λ (u : ℕ). Chose l k u b) (sym same) (subst (Chose l k n) is steps.chose))
      (λ other. have.chose v b (omega arith) (sym (set_there went n v w other) ∙ at));
  offers = λ v less at.
      dite (ℕ_discrete v n)
      (λ same.
      let is : w ≡ true = set_here went n w true (subst (λ (u : ℕ). slice_get (set went n w) u ≡ Some true) same at) in
      subst (λ (u : ℕ). Offers l k u new) (sym same) (steps.offers is))
      (λ other. offers_kept l k n old new steps.alone v (have.offers v (omega arith) (sym (set_there went n v w other) ∙ at)) other);
}

-- before the first one
pub none_decided : (l : Life) (k : ℕ) (x : FlatStations) (went : List Bool) → AreFlat l k x.all.items x.places.items → length went ≡ actors_of l → HaveDecided l k 0 x went
none_decided l k x went flat many = record {
  many = many;
  flat = flat;
  chose = λ v w less at. absurd (omega arith);
  offers = λ v less at. absurd (omega arith);
}
