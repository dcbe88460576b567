-- The stations that an actor drains and fills.
use Rattle.std.proofs.Common.{◌≡◌, ℕ, ◌+◌, ◌<◌, ◌==◌, arith, eq-eqb}
use Rattle.std.specs.Prelude.{Some, slice_get}
use Rattle.std.proofs.lemmas.Bool.{eqb-true}
use Rattle.lid_stations.specs.declared.placement.Placement.{Placement}
use Rattle.lid_stations.specs.Placements.{Links, station_count}
use Rattle.lid_stations.specs.Stations.{filler, drainer}
use Rattle.lid_shell_laws.specs.Runs.{drained_by, filled_by, place_in}
use Rattle.lid_shell_laws.proofs.Filters.{each_passes, each_has_a_place, place_of_passing}

-- a station that an actor drains
pub drained_is : (l : Links) (p : Placement) (v i station : ℕ) → slice_get (drained_by l p v) i ≡ Some station → (station < station_count p.relays) × (drainer l p station ≡ v)
drained_is l p v i station h =
    let known = each_passes (λ s. drainer l p s == v) 0 (station_count p.relays) i station h in
    let high : station < 0 + station_count p.relays = known.to in
    (omega arith, eqb-true _ _ known.passes)

-- a station that an actor fills
pub filled_is : (l : Links) (p : Placement) (v i station : ℕ) → slice_get (filled_by l p v) i ≡ Some station → (station < station_count p.relays) × (filler l p station ≡ v)
filled_is l p v i station h =
    let known = each_passes (λ s. filler l p s == v) 0 (station_count p.relays) i station h in
    let high : station < 0 + station_count p.relays = known.to in
    (omega arith, eqb-true _ _ known.passes)

-- each station that an actor drains has a place among them
pub drained_there : (l : Links) (p : Placement) (v station : ℕ) → station < station_count p.relays → drainer l p station ≡ v → (i : ℕ) × (slice_get (drained_by l p v) i ≡ Some station)
drained_there l p v station there is =
    each_has_a_place (λ s. drainer l p s == v) 0 (station_count p.relays) station (omega arith) (omega arith) (eq-eqb _ _ is)

-- each station that it fills has one
pub filled_there : (l : Links) (p : Placement) (v station : ℕ) → station < station_count p.relays → filler l p station ≡ v → (i : ℕ) × (slice_get (filled_by l p v) i ≡ Some station)
filled_there l p v station there is =
    each_has_a_place (λ s. filler l p s == v) 0 (station_count p.relays) station (omega arith) (omega arith) (eq-eqb _ _ is)

-- each of them stands at its place alone
pub drained_place : (l : Links) (p : Placement) (v i station : ℕ) → slice_get (drained_by l p v) i ≡ Some station → place_in (drained_by l p v) station ≡ i
drained_place l p v i station h = place_of_passing (λ s. drainer l p s == v) 0 (station_count p.relays) i station h

pub filled_place : (l : Links) (p : Placement) (v j station : ℕ) → slice_get (filled_by l p v) j ≡ Some station → place_in (filled_by l p v) station ≡ j
filled_place l p v j station h = place_of_passing (λ s. filler l p s == v) 0 (station_count p.relays) j station h
