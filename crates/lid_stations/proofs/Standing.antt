-- A station at a place of a channel, of which the first has a number.
use Rattle.std.proofs.Common.{◌≡◌, ℕ, ◌+◌, ◌-◌, ◌<◌, ◌≤◌, List, length, take, get_or, ◌∙◌, ap, sym, subst, arith}
use Rattle.std.proofs.lemmas.List.{get_or_default}
use Rattle.lid_system.specs.declared.System.{System}
use Rattle.lid_system.specs.Systems.{IsWellFormed}
use Rattle.lid_stations.specs.declared.placement.Placement.{Placement}
use Rattle.lid_stations.specs.Placements.{links_of, station_count, Fits}
use Rattle.lid_stations.specs.Placed.{Placing, IsPlaced}
use Rattle.lid_stations.specs.Stations.{Spot, fills, drains, filler, drainer, capacity, IsPlace}
use Rattle.lid_stations.proofs.Spots.{spot_is, first_station, station_at_spot, few_movers, few_stations, cap_range}

pub record IsOn (s : System) (p : Placement) (c start place : ℕ) : Type 0 where
  pub system : IsWellFormed s
  pub fits : Fits s p
  pub there : c < length p.relays
  pub first : start ≡ station_count (take c p.relays)
  pub within : place ≤ get_or p.relays c 0

-- so does each place that a loop over the channel comes to
pub on : (s : System) (p : Placement) (c start place : ℕ) (relays : List ℕ) → IsWellFormed s → Fits s p → c < length p.relays → start ≡ station_count (take c p.relays) → relays ≡ p.relays → place < get_or relays c 0 + 1 → IsOn s p c start place
on s p c start place relays well fits there first is less =
    let same : get_or relays c 0 ≡ get_or p.relays c 0 = ap (λ (ks : List ℕ). get_or ks c 0) is in
    record { system = well; fits = fits; there = there; first = first; within = omega arith }

-- so it does where the loop has opened a placed system
pub on_opened : (s : System) (p : Placement) (v : Placing) (c start place : ℕ) (relays : List ℕ) → record { system = s; placement = p } ≡ v → IsPlaced s p → c < length v.placement.relays → start ≡ station_count (take c v.placement.relays) → relays ≡ p.relays → place < get_or relays c 0 + 1 → IsOn s p c start place
on_opened s p v c start place relays at placed there first is less =
    on s p c start place relays placed.formed placed.fits
    (subst (λ (w : Placing). c < length w.placement.relays) (sym at) there) (subst (λ (w : Placing). start ≡ station_count (take c w.placement.relays)) (sym at) first) is less

-- there are few movers up to a place
pub few_up_to : (s : System) (p : Placement) (c place start : ℕ) → IsPlace s p c place start → start + place ≤ 69634
few_up_to s p c place start at = let first = at.first in omega (arith, few_movers s p at.system at.fits c place at.there at.within)

module _ (s : System) (p : Placement) (c start place : ℕ) (on : IsOn s p c start place) where
  -- its first mover, by its number
  pub is_place : (nodes : ℕ) → nodes ≡ length s.nodes → IsPlace s p c place (nodes + (start - c))
  is_place nodes same =
      let there = on.there in
      let first = on.first in
      record { system = on.system; fits = on.fits; there = there; within = on.within; first = omega (arith, first_station p.relays c (omega arith)) }

  pub filled : filler (links_of s) p (start + place) ≡ fills (links_of s) p c place
  filled = ap (λ (spot : Spot). fills (links_of s) p spot.channel spot.place) (spot_is p.relays (start + place) c place on.there on.within (ap (λ (n : ℕ). n + place) on.first))

  pub drained : drainer (links_of s) p (start + place) ≡ drains (links_of s) p c place
  drained = ap (λ (spot : Spot). drains (links_of s) p spot.channel spot.place) (spot_is p.relays (start + place) c place on.there on.within (ap (λ (n : ℕ). n + place) on.first))

  pub is_station : start + place < station_count p.relays
  is_station = let less = (station_at_spot p.relays c place on.there on.within).0 in let first = on.first in omega arith

  pub in_caps : start + place < length p.caps
  in_caps = let less = few_stations s p on.system on.fits c place on.there on.within in let first = on.first in omega arith

  pub capacity_is : (caps : List ℕ) → caps ≡ p.caps → get_or caps (start + place) 0 ≡ capacity p (start + place)
  capacity_is caps same = ap (λ (ks : List ℕ). get_or ks (start + place) 0) same ∙ get_or_default p.caps (start + place) 0 2 in_caps

  pub capacity_range : (caps : List ℕ) → caps ≡ p.caps → (0 < get_or caps (start + place) 0) × (get_or caps (start + place) 0 ≤ 16)
  capacity_range caps same =
      let range = cap_range s p on.system on.fits (start + place) is_station in
      let least = range.0 in
      let most = range.1 in
      let is = capacity_is caps same in
      (omega arith, omega arith)
