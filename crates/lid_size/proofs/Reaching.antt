-- What the comparison of a certificate with forward ratios says of capacities.
use Rattle.std.proofs.Common.{◌≡◌, ℕ, ◌*◌, ◌<◌, ◌≤◌, ◌⊎◌, inl, inr, ◌↔◌, Bool, true, false, IsTrue, List, length, get_or, Option, Some, None, is_some, not, refl, sym, ◌∙◌, subst, arith}
use Rattle.std.specs.Option.{MatchOption}
use Rattle.std.proofs.lemmas.Bool.{cases_lt}
use Rattle.std.proofs.lemmas.List.{get_or-replicate, get_or_past, length-replicate}
use Rattle.std.proofs.lemmas.List.Elements.{All-get_or}
use Rattle.lid_graph.specs.declared.graph.Graph.{Graph}
use Rattle.lid_graph.specs.Walks.{walk_tokens}
use Rattle.lid_cert.specs.declared.cert.Cert.{Cert}
use Rattle.lid_cert.specs.Certificates.{least_node, Certifies, IsInRange, part_at}
use Rattle.lid_graph.specs.Rateable.{IsRateable}
use Rattle.lid_rate.specs.Rates.{IsShort}
use Rattle.lid_system.specs.declared.System.{System}
use Rattle.lid_stations.specs.Placed.{Placing, IsPlaced, links_in}
use Rattle.lid_stations.specs.Placements.{links_of, station_count, IsCapacity}
use Rattle.lid_size_laws.proofs.Scaling.{compared}
use Rattle.lid_rate_ratio.specs.declared.lowest_terms.Ratio.{Ratio}
use Rattle.lid_size.specs.Comparing.{AreAllKept, IsFirstLow, AreCompared, want_of}
use Rattle.lid_size_forward.specs.ForwardParts.{HasStations, AreForwardRatios}
use Rattle.lid_size.specs.Sizing.{with_capacities, sized, greatest, AreCapacities, Reaches}
use Rattle.lid_size.specs.Sizes.{FallsShort}
use Rattle.lid_size.proofs.Joins.{least_within}
use Rattle.lid_size.proofs.Kept.{part_met, want_is, kept_has, all_kept, low_lacks}
use Rattle.lid_size.proofs.Sized.{reach_up, wants_stay, has_stations}

module _ (s : System) (relays caps : List ℕ) (cert : Cert) (wants : List Ratio) (compared : AreCompared (sized (links_of s) relays caps) (station_count relays) cert wants) where
  pub kept_reaches : AreAllKept wants cert.parts (length cert.parts) → Reaches (links_of s) relays caps
  unfolding Reaches
  kept_reaches kept = all_kept (sized (links_of s) relays caps) (station_count relays) cert wants compared kept

  pub low_lets_none : (i : ℕ) → IsFirstLow wants cert.parts i → Reaches (links_of s) relays caps → ⊥
  unfolding Reaches
  low_lets_none i low reach =
      low_lacks (sized (links_of s) relays caps) (station_count relays) cert wants compared i low
      (reach (least_node (part_at cert.parts i)) (least_within (sized (links_of s) relays caps) (part_at cert.parts i) (part_met (sized (links_of s) relays caps) (station_count relays) cert wants compared i low.within)))

  pub reaches_is : (o : Option ℕ) → MatchOption o (AreAllKept wants cert.parts (length cert.parts)) (IsFirstLow wants cert.parts) → (b : Bool) → is_some o ≡ not b → IsTrue b ↔ Reaches (links_of s) relays caps
  reaches_is None kept true is = (λ yes. kept_reaches kept, λ reach. refl)
  reaches_is None kept false is = absurd (let e : false ≡ true = is in cc)
  reaches_is (Some i) low true is = absurd (let e : true ≡ false = is in cc)
  reaches_is (Some i) low false is = (λ yes. absurd (let e : false ≡ true = yes in cc), λ reach. absurd (low_lets_none i low reach))

-- a certificate of a marking and its forward ratios
pub compared_with : (s : System) (relays caps : List ℕ) (g : Graph) (n : ℕ) (cert : Cert) (wants items : List Ratio) → g ≡ sized (links_of s) relays caps → n ≡ station_count relays → IsRateable g → Certifies g cert → IsInRange cert → IsShort g cert → items ≡ wants → AreForwardRatios g n wants → AreCompared (sized (links_of s) relays caps) (station_count relays) cert items
compared_with s relays caps g n cert wants items is count rateable certifies in_range short same ratios =
    subst (λ (h : Graph). AreCompared h (station_count relays) cert items) is
    (subst (λ (m : ℕ). AreCompared g m cert items) count
    (subst (AreCompared g n cert) (sym same) (record { rateable = rateable; certifies = certifies; in_range = in_range; short = short; ratios = ratios })))

-- how many stations a placed system has, by how many capacities
pub stations_counted : (inside now : Placing) (n : ℕ) → inside ≡ now → IsPlaced inside.system inside.placement → n ≡ length inside.placement.caps → n ≡ station_count now.placement.relays
stations_counted inside now n is placed count = subst (λ (v : Placing). n ≡ station_count v.placement.relays) is (count ∙ placed.fits.rules.caps)

pub stations_of : (inside now : Placing) (g : Graph) (n : ℕ) → inside ≡ now → IsPlaced inside.system inside.placement → g ≡ sized (links_in now) now.placement.relays now.placement.caps → n ≡ length inside.placement.caps → HasStations g n
stations_of inside now g n is placed graph count =
    let relays = inside.placement.relays in
    let caps = inside.placement.caps in
    let here : g ≡ sized (links_in inside) relays caps = subst (λ (v : Placing). g ≡ sized (links_in v) v.placement.relays v.placement.caps) (sym is) graph in
    subst (λ (h : Graph). HasStations h n) (sym here)
    (subst (HasStations (sized (links_in inside) relays caps)) (sym (count ∙ placed.fits.rules.caps)) (has_stations inside.system relays caps placed.formed placed.fits))

-- the forward ratios of other capacities
pub wants_with : (s : System) (relays xs other_relays ys : List ℕ) (wants : List Ratio) → other_relays ≡ relays → AreForwardRatios (sized (links_of s) relays xs) (station_count relays) wants → AreForwardRatios (sized (links_of s) other_relays ys) (station_count other_relays) wants
wants_with s relays xs other_relays ys wants is are =
    subst (λ (l : List ℕ). AreForwardRatios (sized (links_of s) l ys) (station_count l) wants) (sym is) (wants_stay s relays xs ys wants are)

-- where some capacities reach, the greatest do
pub greatest_reach : (s : System) (relays caps : List ℕ) → AreCapacities (station_count relays) caps → Reaches (links_of s) relays caps → Reaches (links_of s) relays (greatest relays)
greatest_reach s relays caps are reach = reach_up s relays caps (greatest relays) less reach
  where
    less : (i : ℕ) → get_or caps i 2 ≤ get_or (greatest relays) i 2
    less i = by_order (cases_lt i (station_count relays))
      where
        by_order : (i < station_count relays) ⊎ (station_count relays ≤ i) → get_or caps i 2 ≤ get_or (greatest relays) i 2
        by_order (inl h) =
            let range = (All-get_or IsCapacity caps i 2 (let c = are.count in omega arith) are.range).1 in
            let high : get_or (greatest relays) i 2 ≡ 16 = get_or-replicate (station_count relays) i 16 2 h in
            omega arith
        by_order (inr h) =
            let low = get_or_past caps i 2 (let c = are.count in omega arith) in
            let past : get_or (greatest relays) i 2 ≡ 2 = get_or_past (greatest relays) i 2 (let l = length-replicate {A = ℕ} (station_count relays) 16 in omega arith) in
            omega arith

-- a closed walk of ratio p'/q' that is below p/q
below_walk : (p q p' q' long tokens : ℕ) → 0 < long → q' * tokens ≡ p' * long → p' * q < p * q' → q * tokens < p * long
below_walk p q p' q' long tokens some same less = by_order (cases_lt (q * tokens) (p * long))
  where
    by_order : (q * tokens < p * long) ⊎ (p * long ≤ q * tokens) → q * tokens < p * long
    by_order (inl h) = h
    by_order (inr h) = let more = compared p q p' q' long tokens some h same in absurd (omega arith)

-- where they do not, sizing falls short
pub falls_short : (s : System) (relays : List ℕ) (cert : Cert) (wants : List Ratio) (low : ℕ) → AreCompared (sized (links_of s) relays (greatest relays)) (station_count relays) cert wants → IsFirstLow wants cert.parts low → FallsShort (links_of s) relays low (part_at cert.parts low).p (part_at cert.parts low).q (want_of wants (part_at cert.parts low)).p (want_of wants (part_at cert.parts low)).q cert
falls_short s relays cert wants low compared is = record {
  none = λ caps are reach. low_lets_none s relays (greatest relays) cert wants compared low is (greatest_reach s relays caps are reach);
  certifies = compared.certifies;
  below =
      record {
        within = is.within;
        earlier = λ i h. kept_has (sized (links_of s) relays (greatest relays)) (station_count relays) cert wants compared i (let w = is.within in omega arith) (is.earlier i h);
        have_p_is = refl;
        have_q_is = refl;
        want = want_is (sized (links_of s) relays (greatest relays)) (station_count relays) cert wants compared low is.within;
        below = lower;
        shown = shown;
      };
}
  where
    lower : (part_at cert.parts low).p * (want_of wants (part_at cert.parts low)).q < (want_of wants (part_at cert.parts low)).p * (part_at cert.parts low).q
    lower = by_order (cases_lt ((part_at cert.parts low).p * (want_of wants (part_at cert.parts low)).q) ((want_of wants (part_at cert.parts low)).p * (part_at cert.parts low).q))
      where
        by_order : ((part_at cert.parts low).p * (want_of wants (part_at cert.parts low)).q < (want_of wants (part_at cert.parts low)).p * (part_at cert.parts low).q) ⊎ ((want_of wants (part_at cert.parts low)).p * (part_at cert.parts low).q ≤ (part_at cert.parts low).p * (want_of wants (part_at cert.parts low)).q) → (part_at cert.parts low).p * (want_of wants (part_at cert.parts low)).q < (want_of wants (part_at cert.parts low)).p * (part_at cert.parts low).q
        by_order (inl h) = h
        by_order (inr h) = absurd (is.low h)

    shown : (want_of wants (part_at cert.parts low)).q * walk_tokens (sized (links_of s) relays (greatest relays)) (part_at cert.parts low).cycle < (want_of wants (part_at cert.parts low)).p * length (part_at cert.parts low).cycle
    shown =
        let meets = part_met (sized (links_of s) relays (greatest relays)) (station_count relays) cert wants compared low is.within in
        below_walk (want_of wants (part_at cert.parts low)).p (want_of wants (part_at cert.parts low)).q (part_at cert.parts low).p (part_at cert.parts low).q (length (part_at cert.parts low).cycle) (walk_tokens (sized (links_of s) relays (greatest relays)) (part_at cert.parts low).cycle) meets.inside.walk.some (let r = meets.inside.ratio in omega arith) lower
