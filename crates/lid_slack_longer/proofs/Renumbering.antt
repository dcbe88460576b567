-- Which actors fill and drain the stations of a placement with further relay stations: those after the last
-- station of its channel, and the movers after its last, have higher numbers, and all others the same.
use Rattle.std.proofs.Common.{◌≡◌, ℕ, zero, suc, ◌+◌, ◌-◌, ◌<◌, ◌≤◌, ◌==◌, nat_lt, ◌⊎◌, inl, inr, Bool, true, false, cond, List, ◌++◌, length, take, drop, replicate, get_or, refl, sym, ◌∙◌, ap, subst, lt-ltb, le-ltb, arith}
use Rattle.std.specs.List.{sum_by}
use Rattle.std.proofs.Math.ListN.{set}
use Rattle.std.proofs.Math.Seq.{take-set-lt}
use Rattle.std.proofs.lemmas.Bool.{cases_lt, cases_eq, eqb-false, ne_eqb, eq-eqb}
use Rattle.std.proofs.lemmas.List.{length-set, get_or-set_same, get_or-set_other, take-set-le, get_or-take, length-take-le, get_or_append_left, get_or-append-add, get_or-replicate, get_or-drop, length-replicate}
use Rattle.std.proofs.lemmas.List.Sums.{sum_by-set, sum_by_more, sum_by_more_le}
use Rattle.lid_system.specs.declared.System.{System}
use Rattle.lid_system.specs.Systems.{IsWellFormed}
use Rattle.lid_stations.specs.declared.placement.Placement.{Placement}
use Rattle.lid_stations.specs.Placements.{links_of, station_count, Fits}
use Rattle.lid_stations.specs.Stations.{Spot, spot_at, relay_count, actor_count, mover, channel_at, fills, drains, starts, filler, drainer, start_count, capacity}
use Rattle.lid_stations.proofs.Spots.{Stands, stands, spot_is, channel_there}
use Rattle.lid_slack_longer.specs.Longer.{stations_through, longer}
use Rattle.lid_base.proofs.Sums.{sum_part}

module _ (s : System) (p : Placement) (c : ℕ) (well : IsWellFormed s) (fits : Fits s p) (there : c < length p.relays) where
  -- how many relay stations the channel has, its last station, and the first further mover
  abbrev pub here : ℕ
  here = get_or p.relays c 0

  abbrev pub last_station : ℕ
  last_station = station_count (take c p.relays) + here

  abbrev pub first_mover : ℕ
  first_mover = length s.nodes + (relay_count (take c p.relays) + here)

  pub through_is : stations_through p.relays c ≡ last_station + 1
  through_is = omega (arith, sum_by_more (λ (k : ℕ). k + 1) p.relays c 0 there)

  pub last_below : last_station < station_count p.relays
  last_below = omega (arith, sum_by_more_le (λ (k : ℕ). k + 1) p.relays c 0 there)

  pub last_at : spot_at p.relays last_station ≡ record { channel = c; place = here }
  last_at = spot_is p.relays last_station c here there (omega arith) refl

  module _ (x : ℕ) where
    abbrev pub then : Placement
    then = longer p c x

    relays_long : length then.relays ≡ length p.relays
    relays_long = length-set p.relays c (here + x)

    relays_here : get_or then.relays c 0 ≡ here + x
    relays_here = get_or-set_same p.relays c (here + x) 0 there

    relays_other : (d : ℕ) → (d ≡ c → ⊥) → get_or then.relays d 0 ≡ get_or p.relays d 0
    relays_other d other = get_or-set_other p.relays c d (here + x) 0 other

    up_to : (d : ℕ) → d ≤ c → take d then.relays ≡ take d p.relays
    up_to d h = take-set-le d p.relays c (here + x) h

    past : (f : ℕ → ℕ) → f (here + x) ≡ f here + x → (d : ℕ) → c < d → d ≤ length p.relays → sum_by f (take d then.relays) ≡ sum_by f (take d p.relays) + x
    past f more d less most =
        let cut : sum_by f (take d then.relays) ≡ sum_by f (set (take d p.relays) c (here + x)) = ap (sum_by f) (take-set-lt d p.relays c (here + x) less) in
        let long = length-take-le d p.relays most in
        let sums : sum_by f (set (take d p.relays) c (here + x)) + f (get_or (take d p.relays) c 0) ≡ sum_by f (take d p.relays) + f (here + x) = sum_by-set f (take d p.relays) c (here + x) 0 (omega arith) in
        let same : f (get_or (take d p.relays) c 0) ≡ f here = ap f (get_or-take d p.relays c 0 less) in
        omega arith

    pub count_is : station_count then.relays ≡ station_count p.relays + x
    count_is = let sums = sum_by-set (λ (k : ℕ). k + 1) p.relays c (here + x) 0 there in omega arith

    pub actors_are : actor_count (links_of s) then ≡ actor_count (links_of s) p + x
    actors_are = let sums = sum_by-set (λ (k : ℕ). k) p.relays c (here + x) 0 there in omega arith

    pub shift : ℕ → ℕ
    shift v = cond (nat_lt v first_mover) v (v + x)

    pub shift_low : (v : ℕ) → v < first_mover → shift v ≡ v
    unfolding shift
    shift_low v h = ap (λ (b : Bool). cond b v (v + x)) (lt-ltb v first_mover h)

    pub shift_high : (v : ℕ) → first_mover ≤ v → shift v ≡ v + x
    unfolding shift
    shift_high v h = ap (λ (b : Bool). cond b v (v + x)) (le-ltb v first_mover h)

    -- nodes keep their numbers
    pub shift_node : (v : ℕ) → v < length s.nodes → shift v ≡ v
    shift_node v h = shift_low v (omega arith)

    mover_before : (d i : ℕ) → d ≤ c → mover (links_of s) p d i < first_mover → mover (links_of s) then d i ≡ shift (mover (links_of s) p d i)
    mover_before d i h less =
        let same : relay_count (take d then.relays) ≡ relay_count (take d p.relays) = ap relay_count (up_to d h) in
        omega (arith, shift_low (mover (links_of s) p d i) less)

    mover_after : (d i : ℕ) → c < d → d ≤ length p.relays → mover (links_of s) then d i ≡ shift (mover (links_of s) p d i)
    mover_after d i h most =
        let more : relay_count (take d then.relays) ≡ relay_count (take d p.relays) + x = past (λ (k : ℕ). k) refl d h most in
        let before : relay_count (take c p.relays) + here ≤ relay_count (take d p.relays) = sum_part (λ (k : ℕ). k) p.relays c d h most in
        omega (arith, shift_high (mover (links_of s) p d i) (omega arith))

    -- the movers that were there
    mover_is : (d i : ℕ) → d < length p.relays → i < get_or p.relays d 0 → mover (links_of s) then d i ≡ shift (mover (links_of s) p d i)
    mover_is d i below within = by_order (cases_lt c d) (cases_lt d c)
      where
        by_order : (c < d) ⊎ (d ≤ c) → (d < c) ⊎ (c ≤ d) → mover (links_of s) then d i ≡ shift (mover (links_of s) p d i)
        by_order (inl less) other = mover_after d i less (omega arith)
        by_order (inr more) (inl less) =
            mover_before d i more (let before : relay_count (take d p.relays) + get_or p.relays d 0 ≤ relay_count (take c p.relays) = sum_part (λ (k : ℕ). k) p.relays d c less (omega arith) in omega arith)
        by_order (inr more) (inr at_least) =
            let same : d ≡ c = omega arith in
            let count : get_or p.relays d 0 ≡ here = ap (λ (n : ℕ). get_or p.relays n 0) same in
            let first : relay_count (take d p.relays) ≡ relay_count (take c p.relays) = ap (λ (n : ℕ). relay_count (take n p.relays)) same in
            mover_before d i more (omega arith)

    fills_is : (d i : ℕ) → d < length p.relays → i ≤ get_or p.relays d 0 → fills (links_of s) then d i ≡ shift (fills (links_of s) p d i)
    fills_is d zero below within = sym (shift_node (channel_at (links_of s) d).from (let comes = (channel_there s p well fits d below).comes in omega arith))
    fills_is d (suc i) below within = mover_is d i below (omega arith)

    -- of a channel with as many relay stations
    drains_is_by : (d i : ℕ) → d < length p.relays → i ≤ get_or p.relays d 0 → (i == get_or then.relays d 0) ≡ (i == get_or p.relays d 0) → drains (links_of s) then d i ≡ shift (drains (links_of s) p d i)
    drains_is_by d i below within same = ap (λ (b : Bool). cond b (channel_at (links_of s) d).to (mover (links_of s) then d i)) same ∙ by_last (i == get_or p.relays d 0) refl
      where
        by_last : (b : Bool) → i == get_or p.relays d 0 ≡ b → cond b (channel_at (links_of s) d).to (mover (links_of s) then d i) ≡ shift (cond b (channel_at (links_of s) d).to (mover (links_of s) p d i))
        by_last true e = sym (shift_node (channel_at (links_of s) d).to (channel_there s p well fits d below).ends)
        by_last false e =
            let other : (i ≡ get_or p.relays d 0) → ⊥ = eqb-false i (get_or p.relays d 0) e in
            mover_is d i below (omega arith)

    -- of each station but the last of the channel
    drains_is : (d i : ℕ) → d < length p.relays → i ≤ get_or p.relays d 0 → (d ≡ c → i < here) → drains (links_of s) then d i ≡ shift (drains (links_of s) p d i)
    drains_is d i below within before = by_order (cases_lt c d) (cases_lt d c)
      where
        elsewhere : (d ≡ c → ⊥) → drains (links_of s) then d i ≡ shift (drains (links_of s) p d i)
        elsewhere other = drains_is_by d i below within (ap (λ (n : ℕ). i == n) (relays_other d other))

        by_order : (c < d) ⊎ (d ≤ c) → (d < c) ⊎ (c ≤ d) → drains (links_of s) then d i ≡ shift (drains (links_of s) p d i)
        by_order (inl less) other = elsewhere (λ is. omega arith)
        by_order (inr more) (inl less) = elsewhere (λ is. omega arith)
        by_order (inr more) (inr at_least) =
            let same : d ≡ c = omega arith in
            let less : i < here = before same in
            let now : get_or then.relays d 0 ≡ here + x = ap (λ (n : ℕ). get_or then.relays n 0) same ∙ relays_here in
            let was : get_or p.relays d 0 ≡ here = ap (λ (n : ℕ). get_or p.relays n 0) same in
            drains_is_by d i below within (ne_eqb i (get_or then.relays d 0) (λ is. omega arith) ∙ sym (ne_eqb i (get_or p.relays d 0) (λ is. omega arith)))

    -- a station is filled and drained by these actors, starts with so many tokens, and has this capacity
    pub record HasEnds (station from to tokens cap : ℕ) : Type 0 where
      pub from_is : filler (links_of s) then station ≡ from
      pub to_is : drainer (links_of s) then station ≡ to
      pub tokens_is : start_count then station ≡ tokens
      pub cap_is : capacity then station ≡ cap

    -- what stands at a spot
    ends_at : (station d i from to tokens cap : ℕ) → spot_at then.relays station ≡ record { channel = d; place = i } → fills (links_of s) then d i ≡ from → drains (links_of s) then d i ≡ to → starts i ≡ tokens → capacity then station ≡ cap → HasEnds station from to tokens cap
    ends_at station d i from to tokens cap spot from_is to_is tokens_is cap_is = record {
      from_is = ap (λ (at : Spot). fills (links_of s) then at.channel at.place) spot ∙ from_is;
      to_is = ap (λ (at : Spot). drains (links_of s) then at.channel at.place) spot ∙ to_is;
      tokens_is = ap (λ (at : Spot). starts at.place) spot ∙ tokens_is;
      cap_is = cap_is;
    }

    abbrev pub SameEnds : ℕ → ℕ → Type 0
    SameEnds station now = HasEnds now (shift (filler (links_of s) p station)) (shift (drainer (links_of s) p station)) (start_count p station) (capacity p station)

    -- a station that stands where it stood, but for the last one of the channel
    stays_at : (station now d i : ℕ) → d < length p.relays → i ≤ get_or p.relays d 0 → (d ≡ c → i < here)
        → spot_at p.relays station ≡ record { channel = d; place = i } → spot_at then.relays now ≡ record { channel = d; place = i } → capacity then now ≡ capacity p station → SameEnds station now
    stays_at station now d i below within before was is cap =
        ends_at now d i (shift (filler (links_of s) p station)) (shift (drainer (links_of s) p station)) (start_count p station) (capacity p station) is
        (fills_is d i below within ∙ sym (ap (λ (at : Spot). shift (fills (links_of s) p at.channel at.place)) was))
        (drains_is d i below within before ∙ sym (ap (λ (at : Spot). shift (drains (links_of s) p at.channel at.place)) was))
        (sym (ap (λ (at : Spot). starts at.place) was))
        cap

    abbrev caps_before : List ℕ
    caps_before = take (stations_through p.relays c) p.caps

    before_long : length caps_before ≡ last_station + 1
    before_long = length-take-le (stations_through p.relays c) p.caps (omega (arith, through_is, fits.rules.caps, last_below)) ∙ through_is

    -- up to the last station of the channel capacities stay
    cap_before : (station : ℕ) → station ≤ last_station → capacity then station ≡ capacity p station
    cap_before station h =
        get_or_append_left caps_before (replicate x 2 ++ drop (stations_through p.relays c) p.caps) 2 station (omega (arith, before_long))
        ∙ get_or-take (stations_through p.relays c) p.caps station 2 (omega (arith, through_is))

    -- further relay stations have capacity 2
    cap_further : (i : ℕ) → i < x → capacity then (last_station + 1 + i) ≡ 2
    cap_further i h =
        (let e : last_station + 1 + i ≡ length caps_before + i = omega (arith, before_long) in ap (λ (n : ℕ). get_or then.caps n 2) e)
        ∙ get_or-append-add caps_before (replicate x 2 ++ drop (stations_through p.relays c) p.caps) i 2
        ∙ get_or_append_left (replicate x 2) (drop (stations_through p.relays c) p.caps) 2 i (omega (arith, length-replicate {A = ℕ} x 2))
        ∙ get_or-replicate x i 2 2 h

    -- and those after them the capacity that they had
    cap_after : (station : ℕ) → last_station < station → capacity then (station + x) ≡ capacity p station
    cap_after station h =
        (let e : station + x ≡ length caps_before + (length (replicate x 2) + (station - (last_station + 1))) = omega (arith, before_long, length-replicate {A = ℕ} x 2) in ap (λ (n : ℕ). get_or then.caps n 2) e)
        ∙ get_or-append-add caps_before (replicate x 2 ++ drop (stations_through p.relays c) p.caps) (length (replicate x 2) + (station - (last_station + 1))) 2
        ∙ get_or-append-add (replicate x 2) (drop (stations_through p.relays c) p.caps) (station - (last_station + 1)) 2
        ∙ get_or-drop (stations_through p.relays c) p.caps (station - (last_station + 1)) 2
        ∙ (let e : stations_through p.relays c + (station - (last_station + 1)) ≡ station = omega (arith, through_is) in ap (λ (n : ℕ). get_or p.caps n 2) e)

    -- stations of channels up to this one, and of those after it
    low_spot : (station d i : ℕ) → d ≤ c → d < length p.relays → i ≤ get_or then.relays d 0 → station ≡ station_count (take d p.relays) + i → spot_at then.relays station ≡ record { channel = d; place = i }
    low_spot station d i h below within number =
        spot_is then.relays station d i (omega (arith, relays_long)) within (number ∙ ap (λ (xs : List ℕ). station_count xs + i) (sym (up_to d h)))

    high_spot : (station d i : ℕ) → c < d → d < length p.relays → i ≤ get_or then.relays d 0 → station ≡ station_count (take d p.relays) + i → spot_at then.relays (station + x) ≡ record { channel = d; place = i }
    high_spot station d i h below within number =
        let more : station_count (take d then.relays) ≡ station_count (take d p.relays) + x = past (λ (k : ℕ). k + 1) (omega arith) d h (omega arith) in
        spot_is then.relays (station + x) d i (omega (arith, relays_long)) within (omega arith)

    no_fewer : (d : ℕ) → get_or p.relays d 0 ≤ get_or then.relays d 0
    no_fewer d = by_case (cases_eq d c)
      where
        by_case : (d ≡ c) ⊎ ((d ≡ c) → ⊥) → get_or p.relays d 0 ≤ get_or then.relays d 0
        by_case (inl is) =
            let was : get_or p.relays d 0 ≡ here = ap (λ (n : ℕ). get_or p.relays n 0) is in
            let now : get_or then.relays d 0 ≡ get_or then.relays c 0 = ap (λ (n : ℕ). get_or then.relays n 0) is in
            omega (arith, relays_here)
        by_case (inr other) = omega (arith, relays_other d other)

    -- a station before the last one of the channel
    pub station_before : (station : ℕ) → station < last_station → SameEnds station station
    station_before station h = by_spot (stands p.relays station (omega (arith, last_below)))
      where
        by_spot : Stands p.relays station → SameEnds station station
        by_spot at = by_order (cases_lt c at.channel)
          where
            by_order : (c < at.channel) ⊎ (at.channel ≤ c) → SameEnds station station
            by_order (inl less) =
                let before : station_count (take c p.relays) + (here + 1) ≤ station_count (take at.channel p.relays) = sum_part (λ (k : ℕ). k + 1) p.relays c at.channel less (let b = at.is.below in omega arith) in
                absurd (omega (arith, at.is.number))
            by_order (inr most) =
                stays_at station station at.channel at.place at.is.below at.is.within
                (λ same. let first : station_count (take at.channel p.relays) ≡ station_count (take c p.relays) = ap (λ (n : ℕ). station_count (take n p.relays)) same in omega (arith, at.is.number))
                at.is.spot
                (low_spot station at.channel at.place most at.is.below (let w = at.is.within in omega (arith, no_fewer at.channel)) at.is.number)
                (cap_before station (omega arith))

    -- a station after it
    pub station_after : (station : ℕ) → last_station < station → station < station_count p.relays → SameEnds station (station + x)
    station_after station h less = by_spot (stands p.relays station less)
      where
        by_spot : Stands p.relays station → SameEnds station (station + x)
        by_spot at = by_order (cases_lt c at.channel)
          where
            by_order : (c < at.channel) ⊎ (at.channel ≤ c) → SameEnds station (station + x)
            by_order (inl later) =
                stays_at station (station + x) at.channel at.place at.is.below at.is.within (λ same. omega arith) at.is.spot
                (high_spot station at.channel at.place later at.is.below (let w = at.is.within in omega (arith, no_fewer at.channel)) at.is.number)
                (cap_after station h)
            by_order (inr most) = absurd (by_part (cases_lt at.channel c))
              where
                by_part : (at.channel < c) ⊎ (c ≤ at.channel) → ⊥
                by_part (inl earlier) =
                    let before : station_count (take at.channel p.relays) + (get_or p.relays at.channel 0 + 1) ≤ station_count (take c p.relays) = sum_part (λ (k : ℕ). k + 1) p.relays at.channel c earlier (omega arith) in
                    let w = at.is.within in omega (arith, at.is.number)
                by_part (inr at_least) =
                    let same : at.channel ≡ c = omega arith in
                    let first : station_count (take at.channel p.relays) ≡ station_count (take c p.relays) = ap (λ (n : ℕ). station_count (take n p.relays)) same in
                    let count : get_or p.relays at.channel 0 ≡ here = ap (λ (n : ℕ). get_or p.relays n 0) same in
                    let w = at.is.within in omega (arith, at.is.number)

    -- the stations in a row from the last one on: the i-th is drained by the i-th further mover, and the last one
    -- by the consumer
    chain_spot : (i : ℕ) → i ≤ x → spot_at then.relays (last_station + i) ≡ record { channel = c; place = here + i }
    chain_spot i h = low_spot (last_station + i) c (here + i) (omega arith) there (omega (arith, relays_here)) (omega arith)

    chain_drains : (i : ℕ) → i < x → drains (links_of s) then c (here + i) ≡ first_mover + i
    chain_drains i h =
        ap (λ (b : Bool). cond b (channel_at (links_of s) c).to (mover (links_of s) then c (here + i))) (ne_eqb (here + i) (get_or then.relays c 0) (λ is. omega (arith, relays_here)))
        ∙ (let same : relay_count (take c then.relays) ≡ relay_count (take c p.relays) = ap relay_count (up_to c (omega arith)) in omega arith)

    chain_ends : (i : ℕ) → i ≡ x → drains (links_of s) then c (here + i) ≡ (channel_at (links_of s) c).to
    chain_ends i h = ap (λ (b : Bool). cond b (channel_at (links_of s) c).to (mover (links_of s) then c (here + i))) (eq-eqb (here + i) (get_or then.relays c 0) (omega (arith, relays_here)))

    -- before further relay stations the consumer drained the last station
    pub consumer_is : drainer (links_of s) p last_station ≡ (channel_at (links_of s) c).to
    consumer_is =
        ap (λ (at : Spot). drains (links_of s) p at.channel at.place) last_at
        ∙ ap (λ (b : Bool). cond b (channel_at (links_of s) c).to (mover (links_of s) p c here)) (eq-eqb here here refl)

    pub consumer_below : drainer (links_of s) p last_station < length s.nodes
    consumer_below = let ends = (channel_there s p well fits c there).ends in omega (arith, consumer_is)

    first_ends : (to : ℕ) → drains (links_of s) then c here ≡ to → HasEnds last_station (shift (filler (links_of s) p last_station)) to (start_count p last_station) (capacity p last_station)
    first_ends to is =
        ends_at last_station c here (shift (filler (links_of s) p last_station)) to (start_count p last_station) (capacity p last_station)
        (low_spot last_station c here (omega arith) there (omega (arith, relays_here)) refl)
        (fills_is c here there (omega arith) ∙ sym (ap (λ (at : Spot). shift (fills (links_of s) p at.channel at.place)) last_at))
        is
        (sym (ap (λ (at : Spot). starts at.place) last_at))
        (cap_before last_station (omega arith))

    -- the last station of before
    pub chain_first : (to : ℕ) → (x ≡ 0 → to ≡ shift (drainer (links_of s) p last_station)) → (0 < x → to ≡ first_mover) → HasEnds last_station (shift (filler (links_of s) p last_station)) to (start_count p last_station) (capacity p last_station)
    chain_first to none some = first_ends to (by_number (cases_lt 0 x))
      where
        first : drains (links_of s) then c (here + 0) ≡ drains (links_of s) then c here
        first = let e : here + 0 ≡ here = omega arith in ap (drains (links_of s) then c) e

        by_number : (0 < x) ⊎ (x ≤ 0) → drains (links_of s) then c here ≡ to
        by_number (inl h) = sym first ∙ chain_drains 0 h ∙ (let e = some h in omega arith)
        by_number (inr h) =
            let zero_is : x ≡ 0 = omega arith in
            sym first ∙ chain_ends 0 (sym zero_is) ∙ sym consumer_is ∙ sym (shift_node (drainer (links_of s) p last_station) consumer_below) ∙ sym (none zero_is)

    -- a further station
    pub chain_further : (i to : ℕ) → i < x → (i + 1 < x → to ≡ first_mover + (i + 1)) → (i + 1 ≡ x → to ≡ shift (drainer (links_of s) p last_station)) → HasEnds (last_station + 1 + i) (first_mover + i) to 0 2
    chain_further i to h on end =
        let place : here + (i + 1) ≡ suc (here + i) = omega arith in
        let number : last_station + (i + 1) ≡ last_station + 1 + i = omega arith in
        let same : relay_count (take c then.relays) ≡ relay_count (take c p.relays) = ap relay_count (up_to c (omega arith)) in
        let filled : fills (links_of s) then c (here + (i + 1)) ≡ first_mover + i = ap (fills (links_of s) then c) place ∙ (omega arith) in
        ends_at (last_station + 1 + i) c (here + (i + 1)) (first_mover + i) to 0 2
        (subst (λ (n : ℕ). spot_at then.relays n ≡ record { channel = c; place = here + (i + 1) }) number (chain_spot (i + 1) (omega arith)))
        filled (by_end (cases_lt (i + 1) x)) (ap starts place) (cap_further i h)
      where
        by_end : (i + 1 < x) ⊎ (x ≤ i + 1) → drains (links_of s) then c (here + (i + 1)) ≡ to
        by_end (inl less) = chain_drains (i + 1) less ∙ sym (on less)
        by_end (inr most) =
            let is : i + 1 ≡ x = omega arith in
            chain_ends (i + 1) is ∙ sym consumer_is ∙ sym (shift_node (drainer (links_of s) p last_station) consumer_below) ∙ sym (end is)
