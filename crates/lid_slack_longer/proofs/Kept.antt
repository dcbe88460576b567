-- A ratio that a component keeps with some further relay stations, it keeps with fewer.
use Rattle.std.proofs.Common.{◌≡◌, ℕ, ◌+◌, ◌-◌, ◌*◌, ◌<◌, ◌≤◌, ◌⊎◌, inl, inr, List, [], ◌∷◌, ◌++◌, length, take, drop, replicate, get_or, refl, sym, ◌∙◌, ap, subst, arith, length-append}
use Rattle.std.proofs.Math.ListN.{set}
use Rattle.std.proofs.lemmas.Bool.{cases_lt}
use Rattle.std.proofs.lemmas.List.{length-set, length-replicate, length-drop, length-take-le, set-get_or, take-append-drop}
use Rattle.std.proofs.lemmas.List.Elements.{All-get_or, All-replicate, All-set, All-append, All-take, All-drop}
use Rattle.std.proofs.lemmas.List.Sums.{sum_by-set, sum_by-take-le}
use Rattle.lid_graph.specs.declared.graph.Edge.{Edge}
use Rattle.lid_graph.specs.declared.graph.Graph.{Graph}
use Rattle.lid_graph.specs.Walks.{edge_at, IsWalk, IsClosedWalk, walk_tokens}
use Rattle.lid_graph.specs.Ratios.{IsRatio, IsClosedWalkNear}
use Rattle.lid_system.specs.declared.System.{System}
use Rattle.lid_system.specs.Systems.{IsWellFormed}
use Rattle.lid_stations.specs.declared.placement.Placement.{Placement}
use Rattle.lid_stations.specs.Placements.{links_of, station_count, IsCapacity, Fits}
use Rattle.lid_stations.specs.Markings.{marking}
use Rattle.lid_stations.proofs.Spots.{channel_there}
use Rattle.lid_stations.proofs.Alive.{rateable}
use Rattle.lid_stations.proofs.Edges.{edges_long, self_at}
use Rattle.lid_slack_longer.specs.Longer.{stations_through, longer, longer_marking, producer, room, KeepsAt}
use Rattle.lid_slack_longer.specs.Laws.{LongerFits, NoneAreNone, FewerKeep}
use Rattle.lid_slack_longer.proofs.Reading.{stays, closed_keeps}
use Rattle.lid_slack_longer.proofs.Rounds.{component_keeps}
use Rattle.lid_slack_longer.proofs.Renumbering.{shift, shift_node}
use Rattle.lid_slack_longer.proofs.Chains.{Runs, Base, producing, consuming, forth_tokens, back_tokens, enough_tokens, place, place_up, steps, walks}

pub none_are_none : NoneAreNone
none_are_none p c =
    let relays : set p.relays c (get_or p.relays c 0 + 0) ≡ p.relays = (let e : get_or p.relays c 0 + 0 ≡ get_or p.relays c 0 = omega arith in ap (set p.relays c) e ∙ set-get_or p.relays c 0) in
    let caps : take (stations_through p.relays c) p.caps ++ drop (stations_through p.relays c) p.caps ≡ p.caps = take-append-drop (stations_through p.relays c) p.caps in
    ap (λ (xs : List ℕ). let q : Placement = record { relays = xs; caps = take (stations_through p.relays c) p.caps ++ drop (stations_through p.relays c) p.caps } in q) relays
    ∙ ap (λ (xs : List ℕ). let q : Placement = record { relays = p.relays; caps = xs } in q) caps

module _ (s : System) (p : Placement) (c a b : ℕ) (well : IsWellFormed s) (fits : Fits s p) (there : c < length p.relays) where
  abbrev v : ℕ
  v = producer (links_of s) c

  producer_below : v < length s.nodes
  producer_below = let comes = (channel_there s p well fits c there).comes in omega arith

  module _ (x : ℕ) where
    abbrev g : Graph
    g = longer_marking (links_of s) p c x

    up_same : shift s p c well fits there x v ≡ v
    up_same = shift_node s p c well fits there x v producer_below

    -- closed walks at the producer keep what those of its component keep
    from_keeps : KeepsAt (links_of s) p c x a b → (l t : ℕ) → Runs s p c well fits there x v v l t → a * l ≤ b * t
    from_keeps keeps l t run = by_edges run.edges (subst (λ (n : ℕ). IsWalk g n run.edges n) up_same run.leads) run.long run.tokens
      where
        by_edges : (ks : List ℕ) → IsWalk g v ks v → length ks ≡ l → walk_tokens g ks ≡ t → a * l ≤ b * t
        by_edges [] walk long tokens =
            let none : a * 0 ≡ a * l = ap (λ (n : ℕ). a * n) long in
            omega arith
        by_edges (k ∷ ks) walk long tokens =
            let closed : IsClosedWalk g (k ∷ ks) = record { some = omega arith; closed = subst (λ (n : ℕ). IsWalk g n (k ∷ ks) n) (sym walk.1) walk } in
            let near : IsClosedWalkNear g v (k ∷ ks) = (closed, ([], sym walk.1)) in
            subst (λ (n : ℕ). a * n ≤ b * t) long (subst (λ (n : ℕ). a * length (k ∷ ks) ≤ b * n) tokens (keeps (k ∷ ks) near))

  -- a ratio is at most 1: the self edge shows it
  at_most_one : IsRatio (marking (links_of s) p) v a b → a ≤ b
  at_most_one ratio =
      let k = (station_count p.relays + station_count p.relays) + v in
      let is = self_at s p v (omega (arith, producer_below)) in
      let from : (edge_at (marking (links_of s) p) ((station_count p.relays + station_count p.relays) + v)).from ≡ v = ap (λ (e : Edge). e.from) is in
      let to : (edge_at (marking (links_of s) p) ((station_count p.relays + station_count p.relays) + v)).to ≡ v = ap (λ (e : Edge). e.to) is in
      let tokens : (edge_at (marking (links_of s) p) ((station_count p.relays + station_count p.relays) + v)).tokens ≡ 1 = ap (λ (e : Edge). e.tokens) is in
      let within : (station_count p.relays + station_count p.relays) + v < length (marking (links_of s) p).edges = omega (arith, edges_long s p, producer_below) in
      let bound = ratio.all (((station_count p.relays + station_count p.relays) + v) ∷ []) (record { some = omega arith; closed = (within, refl, to ∙ sym from) }, ([], sym from)) in
      let one : b * ((edge_at (marking (links_of s) p) ((station_count p.relays + station_count p.relays) + v)).tokens + 0) ≡ b * (1 + 0) = ap (λ (n : ℕ). b * (n + 0)) tokens in
      omega arith

  pub none_keep : IsRatio (marking (links_of s) p) v a b → KeepsAt (links_of s) p c 0 a b
  none_keep ratio = subst (λ (q : Placement). (ks : List ℕ) → IsClosedWalkNear (marking (links_of s) q) v ks → a * length ks ≤ b * walk_tokens (marking (links_of s) q) ks) (sym (none_are_none p c)) ratio.all

-- one list of stations more
counted : (relays : List ℕ) (c x : ℕ) → c < length relays → station_count (set relays c (get_or relays c 0 + x)) ≡ station_count relays + x
counted relays c x there = let sums = sum_by-set (λ (k : ℕ). k + 1) relays c (get_or relays c 0 + x) 0 there in omega arith

capacities_long : (caps : List ℕ) (n x : ℕ) → n ≤ length caps → length (take n caps ++ (replicate x 2 ++ drop n caps)) ≡ length caps + x
capacities_long caps n x h =
    omega (arith, length-append (take n caps) (replicate x 2 ++ drop n caps), length-append (replicate x 2) (drop n caps), length-replicate {A = ℕ} x 2, length-drop n caps, length-take-le n caps h)

pub longer_fits : LongerFits
longer_fits s p c x fits below enough = record {
  rules = record {
    few = All-set (λ k. k ≤ 64) p.relays c (get_or p.relays c 0 + x) (let least = All-get_or (λ k. k ≤ 64) p.relays c 0 there fits.rules.few in omega arith) fits.rules.few;
    most = (let most = fits.rules.most in omega (arith, counted p.relays c x there));
    caps = capacities_long p.caps (stations_through p.relays c) x within ∙ (let caps = fits.rules.caps in omega (arith, counted p.relays c x there));
    range = All-append IsCapacity (take (stations_through p.relays c) p.caps) (replicate x 2 ++ drop (stations_through p.relays c) p.caps) (All-take IsCapacity (stations_through p.relays c) p.caps fits.rules.range)
        (All-append IsCapacity (replicate x 2) (drop (stations_through p.relays c) p.caps) (All-replicate IsCapacity x 2 (omega arith, omega arith)) (All-drop IsCapacity (stations_through p.relays c) p.caps fits.rules.range));
  };
  counts = length-set p.relays c (get_or p.relays c 0 + x) ∙ fits.counts;
}
  where
    there : c < length p.relays
    there = omega (arith, fits.counts)

    within : stations_through p.relays c ≤ length p.caps
    within = omega (arith, fits.rules.caps, sum_by-take-le (λ (k : ℕ). k + 1) p.relays (c + 1))

pub fewer_keep : FewerKeep
fewer_keep s p c x y a b well fits below room le ratio keeps = by_number (cases_lt 0 x)
  where
    there : c < length p.relays
    there = omega (arith, fits.counts)

    some_keep : 0 < x → KeepsAt (links_of s) p c x a b
    some_keep some =
        let whole : y - x + x ≡ y = omega arith in
        let far : (l t : ℕ) → Runs s p c well fits there (y - x + x) (producer (links_of s) c) (producer (links_of s) c) l t → a * l ≤ b * t =
        from_keeps s p c a b well fits there (y - x + x) (subst (λ (n : ℕ). KeepsAt (links_of s) p c n a b) (sym whole) keeps) in
        let near : (l t : ℕ) → Runs s p c well fits there 0 (producer (links_of s) c) (producer (links_of s) c) l t → a * l ≤ b * t =
        from_keeps s p c a b well fits there 0 (none_keep s p c a b well fits there ratio) in
        let at : place s p c well fits there x (producer (links_of s) c) ≡ stays (producer (links_of s) c) =
        ap (place s p c well fits there x) (sym (up_same s p c a b well fits there x)) ∙ place_up s p c well fits there x (producer (links_of s) c) in
        component_keeps (longer_marking (links_of s) p c x) (producer (links_of s) c) a b
        (rateable s (longer p c x) well (longer_fits s p c x fits below (omega arith))).paired
        (closed_keeps a b x (y - x) (at_most_one s p c a b well fits there ratio)
        (Runs s p c well fits there 0) (Runs s p c well fits there (y - x + x))
        (Base s p c well fits there) (producing s p c well fits there) (consuming s p c well fits there) (forth_tokens s p c well fits there) (back_tokens s p c well fits there)
        (walks s p c well fits there 0) (walks s p c well fits there (y - x + x)) (enough_tokens s p c well fits there)
        (longer_marking (links_of s) p c x) (place s p c well fits there x) (steps s p c well fits there x (omega arith))
        (producer (links_of s) c) (producer (links_of s) c) at (omega arith) near far)

    by_number : (0 < x) ⊎ (x ≤ 0) → KeepsAt (links_of s) p c x a b
    by_number (inl some) = some_keep some
    by_number (inr none) =
        let is : 0 ≡ x = omega arith in
        subst (λ (n : ℕ). KeepsAt (links_of s) p c n a b) is (none_keep s p c a b well fits there ratio)
