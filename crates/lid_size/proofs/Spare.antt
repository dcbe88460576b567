-- Of the first capacities that reach none is greater than it need be.
use Rattle.std.proofs.Common.{◌≡◌, ℕ, zero, suc, ◌-◌, ◌<◌, ◌≢◌, ◌⊎◌, inl, inr, List, [], ◌∷◌, length, get_or, set, refl, sym, ◌∙◌, ap, subst, arith}
use Rattle.std.proofs.lemmas.Bool.{cases_eq}
use Rattle.std.proofs.lemmas.List.{length-set, get_or-set_same, get_or-set_other}
use Rattle.std.proofs.lemmas.List.Elements.{All-get_or, All-from_get_or}
use Rattle.lid_stations.specs.Placements.{station_count, IsCapacity}
use Rattle.lid_size.specs.Laws.{GreaterCapacitiesReach, NoPlaceIsSpare}
use Rattle.lid_size.specs.Sizing.{AreCapacities, IsBefore}
use Rattle.lid_size.proofs.Sized.{reach_up}

pub greater_reach : GreaterCapacitiesReach
greater_reach s relays caps greater less reach = reach_up s relays caps greater less reach

-- a list with one place less comes before
lowered_before : (caps : List ℕ) (station : ℕ) → station < length caps → 0 < get_or caps station 0 → IsBefore (set caps station (get_or caps station 0 - 1)) caps
lowered_before [] station h some = absurd (omega arith)
lowered_before (c ∷ cs) zero h some = inl (omega arith)
lowered_before (c ∷ cs) (suc station) h some = inr (refl, lowered_before cs station (omega arith) some)

lowered_capacities : (n : ℕ) (caps : List ℕ) (station : ℕ) → AreCapacities n caps → station < length caps → 2 < get_or caps station 0 → AreCapacities n (set caps station (get_or caps station 0 - 1))
lowered_capacities n caps station are h wide = record {
  count = length-set caps station (get_or caps station 0 - 1) ∙ are.count;
  range = All-from_get_or IsCapacity (set caps station (get_or caps station 0 - 1)) 0 (λ i l. by_place i (let long = length-set caps station (get_or caps station 0 - 1) in omega arith) (cases_eq i station));
}
  where
    by_place : (i : ℕ) → i < length caps → (i ≡ station) ⊎ (i ≢ station) → IsCapacity (get_or (set caps station (get_or caps station 0 - 1)) i 0)
    by_place i l (inl is) =
        let most = (All-get_or IsCapacity caps station 0 h are.range).1 in
        let same : get_or (set caps station (get_or caps station 0 - 1)) i 0 ≡ get_or caps station 0 - 1 = ap (λ (m : ℕ). get_or (set caps station (get_or caps station 0 - 1)) m 0) is ∙ get_or-set_same caps station (get_or caps station 0 - 1) 0 h in
        (omega arith, omega arith)
    by_place i l (inr other) = subst IsCapacity (sym (get_or-set_other caps station i (get_or caps station 0 - 1) 0 other)) (All-get_or IsCapacity caps i 0 l are.range)

pub none_spare : NoPlaceIsSpare
none_spare s relays caps station first h wide reach =
    first.first (set caps station (get_or caps station 0 - 1)) (lowered_capacities (station_count relays) caps station first.are_capacities h wide) reach (lowered_before caps station h (omega arith))
