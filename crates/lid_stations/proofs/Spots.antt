-- Where stations stand, and which actors fill and drain them.
use Rattle.std.proofs.Common.{◌≡◌, ℕ, zero, suc, ◌+◌, ◌<◌, ◌≤◌, ◌==◌, Bool, true, false, cond, List, [], ◌∷◌, ◌++◌, length, take, get_or, refl, sym, ◌∙◌, ap, subst, zero-add, arith}
use Rattle.std.proofs.lemmas.Bool.{eqb-false}
use Rattle.std.proofs.lemmas.List.{length-take-le, get_or_append_left, get_or-append-add}
use Rattle.std.proofs.lemmas.List.Elements.{All-get_or}
use Rattle.std.proofs.lemmas.List.Sums.{sum_by-cons, sum_by_more_le}
use Rattle.lid_base.proofs.Lists.{all_among, among_at}
use Rattle.lid_system.specs.declared.System.{System}
use Rattle.lid_system.specs.Systems.{IsWellFormed, IsChannel}
use Rattle.lid_stations.specs.declared.placement.Placement.{Placement}
use Rattle.lid_stations.specs.Placements.{links_of, station_count, IsCapacity, Fits}
use Rattle.lid_stations.specs.Stations.{Spot, spots_on, spots_from, spot_at, relay_count, actor_count, mover, no_channel, channel_at, fills, drains, starts, filler, drainer, capacity}
use Rattle.lid_stations.specs.Laws.{StandsAt, StandsBetween}
use Rattle.lid_stations.proofs.Parts.{HasPart, part_of}
use Rattle.lid_base.proofs.Each.{each_length, each_at}

-- there is a relay station less on each channel than there are stations
pub fewer_relays : (relays : List ℕ) → station_count relays ≡ relay_count relays + length relays
fewer_relays [] = refl
fewer_relays (k ∷ ks) = omega (arith, fewer_relays ks, sum_by-cons (λ (k : ℕ). k + 1) k ks, sum_by-cons (λ (k : ℕ). k) k ks)

-- so the stations before a channel are the relay stations there and one for each channel
pub first_station : (relays : List ℕ) (c : ℕ) → c ≤ length relays → station_count (take c relays) ≡ relay_count (take c relays) + c
first_station relays c h = omega (arith, fewer_relays (take c relays), length-take-le c relays h)

pub starts_small : (i : ℕ) → starts i ≤ 1
starts_small zero = omega arith
starts_small (suc i) = omega arith

-- the spot of a station, by its channel and its place there
spot_there : (first : ℕ) (relays : List ℕ) (c i : ℕ) (d : Spot) → c < length relays → i ≤ get_or relays c 0 → get_or (spots_from first relays) (station_count (take c relays) + i) d ≡ record { channel = first + c; place = i }
spot_there first [] c i d below within = absurd (omega arith)
spot_there first (k ∷ ks) zero i d below within =
    let less : i < length (spots_on first k) = (let l = each_length (λ (i : ℕ). let s : Spot = record { channel = first; place = i } in s) 0 (suc k) in omega arith) in
    ap (λ (n : ℕ). get_or (spots_on first k ++ spots_from (suc first) ks) n d) (zero-add i)
    ∙ get_or_append_left (spots_on first k) (spots_from (suc first) ks) d i less
    ∙ each_at (λ (i : ℕ). let s : Spot = record { channel = first; place = i } in s) 0 (suc k) i d (omega arith)
    ∙ (let e : 0 + i ≡ i = omega arith in let f : first ≡ first + 0 = omega arith in ap (λ (n : ℕ). let s : Spot = record { channel = first; place = n } in s) e ∙ ap (λ (n : ℕ). let s : Spot = record { channel = n; place = i } in s) f)
spot_there first (k ∷ ks) (suc c) i d below within =
    let long = each_length (λ (i : ℕ). let s : Spot = record { channel = first; place = i } in s) 0 (suc k) in
    let place : station_count (take (suc c) (k ∷ ks)) + i ≡ length (spots_on first k) + (station_count (take c ks) + i) = (let s = sum_by-cons (λ (k : ℕ). k + 1) k (take c ks) in omega arith) in
    ap (λ (n : ℕ). get_or (spots_on first k ++ spots_from (suc first) ks) n d) place
    ∙ get_or-append-add (spots_on first k) (spots_from (suc first) ks) (station_count (take c ks) + i) d
    ∙ spot_there (suc first) ks c i d (omega arith) within
    ∙ (let e : suc first + c ≡ first + suc c = omega arith in ap (λ (n : ℕ). let s : Spot = record { channel = n; place = i } in s) e)

pub spot_is : (relays : List ℕ) (station c i : ℕ) → c < length relays → i ≤ get_or relays c 0 → station ≡ station_count (take c relays) + i → spot_at relays station ≡ record { channel = c; place = i }
spot_is relays station c i below within number =
    ap (spot_at relays) number
    ∙ spot_there 0 relays c i (record { channel = 0; place = 0 }) below within
    ∙ ap (λ (n : ℕ). let s : Spot = record { channel = n; place = i } in s) (zero-add c)

-- each station stands somewhere
pub record Stands (relays : List ℕ) (station : ℕ) : Type 0 where
  pub channel : ℕ
  pub place : ℕ
  pub is : StandsAt relays station channel place

pub stands : (relays : List ℕ) (station : ℕ) → station < station_count relays → Stands relays station
stands relays station h = from_part (part_of (λ (k : ℕ). k + 1) relays station h)
  where
    from_part : HasPart (λ (k : ℕ). k + 1) relays station → Stands relays station
    from_part p =
        let within : p.place ≤ get_or relays p.part 0 = (let w = p.is.within in omega arith) in
        record { channel = p.part; place = p.place; is = record { spot = spot_is relays station p.part p.place p.is.below within p.is.number; below = p.is.below; within = within; number = p.is.number } }

-- and its spot says where
pub spot_of_station : (relays : List ℕ) (station : ℕ) → station < station_count relays → StandsAt relays station (spot_at relays station).channel (spot_at relays station).place
spot_of_station relays station h =
    let at = stands relays station h in
    subst (λ (spot : Spot). StandsAt relays station spot.channel spot.place) (sym at.is.spot) at.is

-- each spot has a station
pub station_at_spot : (relays : List ℕ) (c i : ℕ) → c < length relays → i ≤ get_or relays c 0 → (station_count (take c relays) + i < station_count relays) × StandsAt relays (station_count (take c relays) + i) c i
station_at_spot relays c i below within = (
  omega (arith, sum_by_more_le (λ (k : ℕ). k + 1) relays c 0 below),
  record { spot = spot_is relays (station_count (take c relays) + i) c i below within refl; below = below; within = within; number = refl },
)

-- a mover of a place is an actor
pub mover_below : (s : System) (p : Placement) (c i : ℕ) → c < length p.relays → i < get_or p.relays c 0 → mover (links_of s) p c i < actor_count (links_of s) p
mover_below s p c i below within = omega (arith, sum_by_more_le (λ (k : ℕ). k) p.relays c 0 below)

module _ (s : System) (p : Placement) (well : IsWellFormed s) (fits : Fits s p) where
  pub few_actors : actor_count (links_of s) p ≤ 69634
  few_actors = omega (arith, well.most, fits.rules.most, fewer_relays p.relays)

  pub few_movers : (c i : ℕ) → c < length p.relays → i ≤ get_or p.relays c 0 → mover (links_of s) p c i ≤ 69634
  few_movers c i below within = omega (arith, few_actors, sum_by_more_le (λ (k : ℕ). k) p.relays c 0 below)

  pub few_stations : (c i : ℕ) → c < length p.relays → i ≤ get_or p.relays c 0 → station_count (take c p.relays) + i < length p.caps
  few_stations c i below within = omega (arith, fits.rules.caps, sum_by_more_le (λ (k : ℕ). k + 1) p.relays c 0 below)

  pub cap_range : (station : ℕ) → station < station_count p.relays → IsCapacity (capacity p station)
  cap_range station h = All-get_or IsCapacity p.caps station 2 (omega (arith, fits.rules.caps)) fits.rules.range

  pub channel_there : (c : ℕ) → c < length p.relays → IsChannel s (channel_at (links_of s) c)
  channel_there c below = all_among (IsChannel s) s.channels (channel_at (links_of s) c) well.each_channel (among_at s.channels c no_channel (omega (arith, fits.counts)))

  -- an actor that fills a station is not the sink
  pub fills_below : (c i : ℕ) → c < length p.relays → i ≤ get_or p.relays c 0 → (fills (links_of s) p c i < actor_count (links_of s) p) × ((fills (links_of s) p c i + 1 ≡ length s.nodes) → ⊥)
  fills_below c zero below within = let comes = (channel_there c below).comes in (omega arith, λ is. omega arith)
  fills_below c (suc i) below within = (mover_below s p c i below (omega arith), λ is. omega arith)

  -- an actor that drains one is not the source
  pub drains_below : (c i : ℕ) → c < length p.relays → i ≤ get_or p.relays c 0 → (drains (links_of s) p c i < actor_count (links_of s) p) × (0 < drains (links_of s) p c i)
  drains_below c i below within = by_last (i == get_or p.relays c 0) refl
    where
      by_last : (b : Bool) → i == get_or p.relays c 0 ≡ b → (cond b (channel_at (links_of s) c).to (mover (links_of s) p c i) < actor_count (links_of s) p) × (0 < cond b (channel_at (links_of s) c).to (mover (links_of s) p c i))
      by_last true e = let there = channel_there c below in let ends = there.ends in let leads = there.leads in (omega arith, omega arith)
      by_last false e =
          let other : (i ≡ get_or p.relays c 0) → ⊥ = eqb-false i (get_or p.relays c 0) e in
          (mover_below s p c i below (omega arith), (let least = well.least in omega arith))

  pub stands_between : (station : ℕ) → station < station_count p.relays → StandsBetween s p station
  stands_between station h = by_spot (stands p.relays station h)
    where
      by_spot : Stands p.relays station → StandsBetween s p station
      by_spot at =
          let c = at.channel in
          let i = at.place in
          let from : filler (links_of s) p station ≡ fills (links_of s) p c i = ap (λ (spot : Spot). fills (links_of s) p spot.channel spot.place) at.is.spot in
          let to : drainer (links_of s) p station ≡ drains (links_of s) p c i = ap (λ (spot : Spot). drains (links_of s) p spot.channel spot.place) at.is.spot in
          let first = fills_below c i at.is.below at.is.within in
          let last = drains_below c i at.is.below at.is.within in
          let filled = first.0 in
          let drained = last.0 in
          let later = last.1 in
          record { filled = omega arith; not_sink = λ is. first.1 (omega arith); drained = omega arith; not_source = omega arith }
