-- The marking of a placement with further relay stations: its edges are those of the marking before, but for
-- those of the last station of the channel, and a chain of stations in its place.
use Rattle.std.proofs.Common.{◌≡◌, ℕ, zero, suc, ◌+◌, ◌-◌, ◌*◌, ◌<◌, ◌≤◌, nat_lt, ◌⊎◌, inl, inr, Bool, cond, List, [], ◌∷◌, ◌++◌, length, refl, sym, ◌∙◌, ap, subst, lt-ltb, le-ltb, arith, length-append}
use Rattle.std.proofs.lemmas.Bool.{cases_lt}
use Rattle.std.proofs.lemmas.List.Sums.{sum_by_more_le}
use Rattle.lid_graph.specs.declared.graph.Edge.{Edge}
use Rattle.lid_graph.specs.declared.graph.Graph.{Graph}
use Rattle.lid_graph.specs.Walks.{edge_at, IsWalk, walk_tokens}
use Rattle.lid_graph.proofs.Journeys.{walk_append}
use Rattle.lid_graph_laws.proofs.Walking.{tokens_append}
use Rattle.lid_system.specs.declared.System.{System}
use Rattle.lid_system.specs.Systems.{IsWellFormed}
use Rattle.lid_stations.specs.declared.placement.Placement.{Placement}
use Rattle.lid_stations.specs.Placements.{links_of, station_count, Fits}
use Rattle.lid_stations.specs.Stations.{actor_count, filler, drainer, start_count, capacity}
use Rattle.lid_stations.specs.Markings.{forth, back, self_edge, marking}
use Rattle.lid_stations.proofs.Spots.{starts_small, cap_range}
use Rattle.lid_stations.proofs.Edges.{edges_long, forth_at, back_at, self_at, by_edge}
use Rattle.lid_slack_longer.proofs.Reading.{AreWalks, Where, stays, further, IsStep}
use Rattle.lid_slack_longer.proofs.Renumbering.{last_station, first_mover, last_below, then, count_is, actors_are, shift, shift_low, shift_high, HasEnds, SameEnds, station_before, station_after, chain_first, chain_further}

-- a walk by where it begins and ends, its edges and its tokens
pub record Run (g : Graph) (a b l t : ℕ) : Type 0 where
  pub edges : List ℕ
  pub leads : IsWalk g a edges b
  pub long : length edges ≡ l
  pub tokens : walk_tokens g edges ≡ t

run_join : (g : Graph) (a b c l m t r : ℕ) → Run g a b l t → Run g b c m r → Run g a c (l + m) (t + r)
run_join g a b c l m t r h i = record {
  edges = h.edges ++ i.edges;
  leads = walk_append g h.edges i.edges a b c h.leads i.leads;
  long = omega (arith, length-append h.edges i.edges, h.long, i.long);
  tokens = omega (arith, tokens_append g h.edges i.edges, h.tokens, i.tokens);
}

run_edge : (g : Graph) (k : ℕ) (e : Edge) → k < length g.edges → edge_at g k ≡ e → Run g e.from e.to 1 e.tokens
run_edge g k e within is = record {
  edges = k ∷ [];
  leads = (within, ap (λ (e : Edge). e.from) is, ap (λ (e : Edge). e.to) is);
  long = refl;
  tokens = (let same : (edge_at g k).tokens ≡ e.tokens = ap (λ (e : Edge). e.tokens) is in omega arith);
}

run_as : (g : Graph) (a b l t c d m r : ℕ) → a ≡ c → b ≡ d → l ≡ m → t ≡ r → Run g a b l t → Run g c d m r
run_as g a b l t c d m r from to long tokens h =
    subst (λ (n : ℕ). Run g n d m r) from (subst (λ (n : ℕ). Run g a n m r) to (subst (λ (n : ℕ). Run g a b n r) long (subst (λ (n : ℕ). Run g a b l n) tokens h)))

module _ (s : System) (p : Placement) (c : ℕ) (well : IsWellFormed s) (fits : Fits s p) (there : c < length p.relays) where
  abbrev last : ℕ
  last = last_station s p c well fits there

  abbrev first : ℕ
  first = first_mover s p c well fits there

  abbrev count : ℕ
  count = station_count p.relays

  abbrev actors : ℕ
  actors = actor_count (links_of s) p

  -- the actors and the tokens of the last station
  abbrev pub producing : ℕ
  producing = filler (links_of s) p last

  abbrev pub consuming : ℕ
  consuming = drainer (links_of s) p last

  abbrev pub forth_tokens : ℕ
  forth_tokens = start_count p last

  abbrev pub back_tokens : ℕ
  back_tokens = capacity p last - start_count p last

  pub enough_tokens : 2 ≤ forth_tokens + back_tokens
  enough_tokens =
      let range = cap_range s p well fits last (last_below s p c well fits there) in
      let least = range.0 in
      let small : start_count p last ≤ 1 = starts_small _ in
      omega arith

  -- an edge of the marking that stays: of another station, or a self edge
  abbrev IsAlong : ℕ → ℕ → ℕ → ℕ → Type 0
  IsAlong station a b t =
      ((filler (links_of s) p station ≡ a) × (drainer (links_of s) p station ≡ b) × (start_count p station ≡ t))
      ⊎ ((drainer (links_of s) p station ≡ a) × (filler (links_of s) p station ≡ b) × (capacity p station - start_count p station ≡ t))

  abbrev pub Base : ℕ → ℕ → ℕ → Type 0
  Base a b t = ((station : ℕ) × (station < count) × (station ≡ last → ⊥) × IsAlong station a b t) ⊎ ((a < actors) × (a ≡ b) × (t ≡ 1))

  movers_within : first ≤ actors
  movers_within = omega (arith, sum_by_more_le (λ (k : ℕ). k) p.relays c 0 there)

  module _ (x : ℕ) where
    abbrev now : Placement
    now = then s p c well fits there x

    abbrev g : Graph
    g = marking (links_of s) now

    abbrev up : ℕ → ℕ
    up = shift s p c well fits there x

    abbrev Has : ℕ → ℕ → ℕ → ℕ → ℕ → Type 0
    Has = HasEnds s p c well fits there x

    -- where a transition of the marking is
    pub place : ℕ → Where
    place n = cond (nat_lt n first) (stays n) (cond (nat_lt n (first + x)) (further (n - first)) (stays (n - x)))

    place_low : (n : ℕ) → n < first → place n ≡ stays n
    unfolding place
    place_low n h = ap (λ (b : Bool). cond b (stays n) (cond (nat_lt n (first + x)) (further (n - first)) (stays (n - x)))) (lt-ltb n first h)

    place_mid : (n : ℕ) → first ≤ n → n < first + x → place n ≡ further (n - first)
    unfolding place
    place_mid n h i =
        ap (λ (b : Bool). cond b (stays n) (cond (nat_lt n (first + x)) (further (n - first)) (stays (n - x)))) (le-ltb n first h)
        ∙ ap (λ (b : Bool). cond b (further (n - first)) (stays (n - x))) (lt-ltb n (first + x) i)

    place_high : (n : ℕ) → first + x ≤ n → place n ≡ stays (n - x)
    unfolding place
    place_high n h =
        ap (λ (b : Bool). cond b (stays n) (cond (nat_lt n (first + x)) (further (n - first)) (stays (n - x)))) (le-ltb n first (omega arith))
        ∙ ap (λ (b : Bool). cond b (further (n - first)) (stays (n - x))) (le-ltb n (first + x) h)

    pub place_up : (v : ℕ) → place (up v) ≡ stays v
    place_up v = by_order (cases_lt v first)
      where
        by_order : (v < first) ⊎ (first ≤ v) → place (up v) ≡ stays v
        by_order (inl h) = ap place (shift_low s p c well fits there x v h) ∙ place_low v h
        by_order (inr h) =
            ap place (shift_high s p c well fits there x v h) ∙ place_high (v + x) (omega arith) ∙ (let e : v + x - x ≡ v = omega arith in ap stays e)

    place_further : (i : ℕ) → i < x → place (first + i) ≡ further i
    place_further i h = place_mid (first + i) (omega arith) (omega arith) ∙ (let e : first + i - first ≡ i = omega arith in ap further e)

    -- every edge is one of the base or of the chain
    abbrev Steps : Where → Where → ℕ → Type 0
    Steps = IsStep Base producing consuming forth_tokens back_tokens x

    abbrev IsEdgeStep : Edge → Type 0
    IsEdgeStep e = Steps (place e.from) (place e.to) e.tokens

    step_of : (a b t : ℕ) (f e : Where) (r : ℕ) → place a ≡ f → place b ≡ e → t ≡ r → Steps f e r → Steps (place a) (place b) t
    step_of a b t f e r from to tokens h =
        subst (λ (n : ℕ). Steps (place a) (place b) n) (sym tokens)
        (subst (λ (w : Where). Steps (place a) w r) (sym to) (subst (λ (w : Where). Steps w e r) (sym from) h))

    AreSteps : ℕ → Type 0
    AreSteps station = IsEdgeStep (forth (links_of s) now station) × IsEdgeStep (back (links_of s) now station)

    -- of a station with these ends
    steps_of : (station from to tokens cap : ℕ) (f e : Where) → Has station from to tokens cap → place from ≡ f → place to ≡ e → Steps f e tokens → Steps e f (cap - tokens) → AreSteps station
    unfolding AreSteps
    steps_of station from to tokens cap f e ends f_is e_is along backward =
        let from_is = ends.from_is in
        let to_is = ends.to_is in
        let tokens_is = ends.tokens_is in
        let cap_is = ends.cap_is in (
          step_of (filler (links_of s) now station) (drainer (links_of s) now station) (start_count now station) f e tokens (ap place from_is ∙ f_is) (ap place to_is ∙ e_is) tokens_is along,
          step_of (drainer (links_of s) now station) (filler (links_of s) now station) (capacity now station - start_count now station) e f (cap - tokens) (ap place to_is ∙ e_is) (ap place from_is ∙ f_is) (omega (arith, tokens_is, cap_is)) backward,
        )

    same_steps : (station at : ℕ) → station < count → (station ≡ last → ⊥) → SameEnds s p c well fits there x station at → AreSteps at
    same_steps station at less other ends =
        steps_of at (up (filler (links_of s) p station)) (up (drainer (links_of s) p station)) (start_count p station) (capacity p station) (stays (filler (links_of s) p station)) (stays (drainer (links_of s) p station)) ends
        (place_up (filler (links_of s) p station)) (place_up (drainer (links_of s) p station))
        (inl (station, less, other, inl (refl, refl, refl))) (inl (station, less, other, inr (refl, refl, refl)))

    first_steps : 1 ≤ x → AreSteps last
    first_steps some =
        steps_of last (up producing) (first + 0) forth_tokens (capacity p last) (stays producing) (further 0)
        (chain_first s p c well fits there x (first + 0) (λ none. absurd (omega arith)) (λ h. omega arith))
        (place_up producing) (place_further 0 some) (inl (refl, refl, refl)) (inl (refl, refl, refl))

    further_steps : (i : ℕ) → i < x → AreSteps (last + 1 + i)
    further_steps i h = by_end (cases_lt (i + 1) x)
      where
        by_end : (i + 1 < x) ⊎ (x ≤ i + 1) → AreSteps (last + 1 + i)
        by_end (inl less) =
            steps_of (last + 1 + i) (first + i) (first + (i + 1)) 0 2 (further i) (further (i + 1))
            (chain_further s p c well fits there x i (first + (i + 1)) h (λ on. refl) (λ is. absurd (omega arith)))
            (place_further i h) (place_further (i + 1) less) (h, less, inl (refl, refl)) (less, h, inr (inl (refl, refl)))
        by_end (inr most) =
            let is : i + 1 ≡ x = omega arith in
            steps_of (last + 1 + i) (first + i) (up consuming) 0 2 (further i) (stays consuming)
            (chain_further s p c well fits there x i (up consuming) h (λ on. absurd (omega arith)) (λ end. refl))
            (place_further i h) (place_up consuming) (inr (refl, is, refl)) (inr (refl, is, refl))

    station_steps : 1 ≤ x → (station : ℕ) → station < station_count now.relays → AreSteps station
    station_steps some station h = by_order (cases_lt station last) (cases_lt last station) (cases_lt (last + x) station)
      where
        less : station < count + x
        less = omega (arith, count_is s p c well fits there x)

        by_order : (station < last) ⊎ (last ≤ station) → (last < station) ⊎ (station ≤ last) → (last + x < station) ⊎ (station ≤ last + x) → AreSteps station
        by_order (inl before) other third = same_steps station station (omega (arith, last_below s p c well fits there)) (λ is. omega arith) (station_before s p c well fits there x station before)
        by_order (inr more) (inr most) third = (let is : last ≡ station = omega arith in subst AreSteps is (first_steps some))
        by_order (inr more) (inl after) (inl late) =
            let is : station - x + x ≡ station = omega arith in
            subst AreSteps is (same_steps (station - x) (station - x + x) (omega (arith, less)) (λ is. omega arith) (station_after s p c well fits there x (station - x) (omega arith) (omega (arith, less))))
        by_order (inr more) (inl after) (inr early) =
            let is : last + 1 + (station - (last + 1)) ≡ station = omega arith in
            subst AreSteps is (further_steps (station - (last + 1)) (omega arith))

    self_steps : (v : ℕ) → v < actor_count (links_of s) now → IsEdgeStep (self_edge v)
    self_steps v h = by_order (cases_lt v first) (cases_lt v (first + x))
      where
        less : v < actors + x
        less = omega (arith, actors_are s p c well fits there x)

        by_order : (v < first) ⊎ (first ≤ v) → (v < first + x) ⊎ (first + x ≤ v) → IsEdgeStep (self_edge v)
        by_order (inl low) other = step_of v v 1 (stays v) (stays v) 1 (place_low v low) (place_low v low) refl (inr (omega (arith, movers_within), refl, refl))
        by_order (inr more) (inl mid) =
            step_of v v 1 (further (v - first)) (further (v - first)) 1 (place_mid v more mid) (place_mid v more mid) refl (omega arith, omega arith, inr (inr (refl, refl)))
        by_order (inr more) (inr high) = step_of v v 1 (stays (v - x)) (stays (v - x)) 1 (place_high v high) (place_high v high) refl (inr (omega (arith, less), refl, refl))

    pub steps : 1 ≤ x → (k : ℕ) → k < length g.edges → IsStep Base producing consuming forth_tokens back_tokens x (place (edge_at g k).from) (place (edge_at g k).to) (edge_at g k).tokens
    unfolding AreSteps
    steps some = by_edge s now (λ k. IsEdgeStep (edge_at g k))
        (λ station h. subst IsEdgeStep (sym (forth_at s now station h)) (station_steps some station h).0)
        (λ station h. subst IsEdgeStep (sym (back_at s now station h)) (station_steps some station h).1)
        (λ v h. subst IsEdgeStep (sym (self_at s now v h)) (self_steps v h))

    -- walks along all of these edges
    run_forth : (station from to tokens cap : ℕ) → Has station from to tokens cap → station < station_count now.relays → Run g from to 1 tokens
    run_forth station from to tokens cap ends h =
        run_as g (filler (links_of s) now station) (drainer (links_of s) now station) 1 (start_count now station) from to 1 tokens ends.from_is ends.to_is refl ends.tokens_is
        (run_edge g (station + station) (forth (links_of s) now station) (omega (arith, edges_long s now)) (forth_at s now station h))

    run_back : (station from to tokens cap : ℕ) → Has station from to tokens cap → station < station_count now.relays → Run g to from 1 (cap - tokens)
    run_back station from to tokens cap ends h =
        let tokens_is = ends.tokens_is in
        let cap_is = ends.cap_is in
        run_as g (drainer (links_of s) now station) (filler (links_of s) now station) 1 (capacity now station - start_count now station) to from 1 (cap - tokens) ends.to_is ends.from_is refl (omega (arith, tokens_is, cap_is))
        (run_edge g (suc (station + station)) (back (links_of s) now station) (omega (arith, edges_long s now)) (back_at s now station h))

    run_same : (station at a b t : ℕ) → SameEnds s p c well fits there x station at → at < station_count now.relays → IsAlong station a b t → Run g (up a) (up b) 1 t
    run_same station at a b t ends h (inl along) =
        run_as g (up (filler (links_of s) p station)) (up (drainer (links_of s) p station)) 1 (start_count p station) (up a) (up b) 1 t (ap up along.0) (ap up along.1) refl along.2
        (run_forth at (up (filler (links_of s) p station)) (up (drainer (links_of s) p station)) (start_count p station) (capacity p station) ends h)
    run_same station at a b t ends h (inr along) =
        run_as g (up (drainer (links_of s) p station)) (up (filler (links_of s) p station)) 1 (capacity p station - start_count p station) (up a) (up b) 1 t (ap up along.0) (ap up along.1) refl along.2
        (run_back at (up (filler (links_of s) p station)) (up (drainer (links_of s) p station)) (start_count p station) (capacity p station) ends h)

    up_below : (v : ℕ) → v < actors → up v < actor_count (links_of s) now
    up_below v h = by_order (cases_lt v first)
      where
        by_order : (v < first) ⊎ (first ≤ v) → up v < actor_count (links_of s) now
        by_order (inl low) = omega (arith, shift_low s p c well fits there x v low, actors_are s p c well fits there x)
        by_order (inr high) = omega (arith, shift_high s p c well fits there x v high, actors_are s p c well fits there x)

    base_run : (a b t : ℕ) → Base a b t → Run g (up a) (up b) 1 t
    base_run a b t (inl h) = by_order (cases_lt h.0 last)
      where
        by_order : (h.0 < last) ⊎ (last ≤ h.0) → Run g (up a) (up b) 1 t
        by_order (inl less) = let there_is = h.1 in run_same h.0 h.0 a b t (station_before s p c well fits there x h.0 less) (omega (arith, count_is s p c well fits there x)) h.3
        by_order (inr more) =
            let there_is = h.1 in
            let after : last < h.0 = by_equal (cases_lt last h.0) in
            run_same h.0 (h.0 + x) a b t (station_after s p c well fits there x h.0 after there_is) (omega (arith, count_is s p c well fits there x)) h.3
          where
            by_equal : (last < h.0) ⊎ (h.0 ≤ last) → last < h.0
            by_equal (inl after) = after
            by_equal (inr most) = absurd (h.2 (omega arith))
    base_run a b t (inr h) =
        run_as g (up a) (up a) 1 1 (up a) (up b) 1 t refl (ap up h.1) refl (sym h.2)
        (run_edge g ((station_count now.relays + station_count now.relays) + up a) (self_edge (up a)) (omega (arith, edges_long s now, up_below a h.0)) (self_at s now (up a) (up_below a h.0)))

    -- the actor that drains the i-th station of the chain
    chain_at : ℕ → ℕ
    chain_at i = cond (nat_lt i x) (first + i) (up consuming)

    chain_on : (i : ℕ) → i < x → chain_at i ≡ first + i
    unfolding chain_at
    chain_on i h = ap (λ (b : Bool). cond b (first + i) (up consuming)) (lt-ltb i x h)

    chain_end : (i : ℕ) → x ≤ i → chain_at i ≡ up consuming
    unfolding chain_at
    chain_end i h = ap (λ (b : Bool). cond b (first + i) (up consuming)) (le-ltb i x h)

    first_ends : Has last (up producing) (chain_at 0) forth_tokens (capacity p last)
    first_ends = chain_first s p c well fits there x (chain_at 0) (λ none. chain_end 0 (omega arith)) (λ h. omega (arith, chain_on 0 h))

    later_ends : (i : ℕ) → i < x → Has (last + 1 + i) (first + i) (chain_at (i + 1)) 0 2
    later_ends i h = chain_further s p c well fits there x i (chain_at (i + 1)) h (λ on. chain_on (i + 1) on) (λ end. chain_end (i + 1) (omega arith))

    first_within : last < station_count now.relays
    first_within = omega (arith, count_is s p c well fits there x, last_below s p c well fits there)

    later_within : (i : ℕ) → i < x → last + 1 + i < station_count now.relays
    later_within i h = omega (arith, count_is s p c well fits there x, last_below s p c well fits there)

    chain_forth : (i : ℕ) → i ≤ x → Run g (up producing) (chain_at i) (i + 1) forth_tokens
    chain_forth zero h = run_as g (up producing) (chain_at 0) 1 forth_tokens (up producing) (chain_at 0) (0 + 1) forth_tokens refl refl (omega arith) refl (run_forth last (up producing) (chain_at 0) forth_tokens (capacity p last) first_ends first_within)
    chain_forth (suc i) h =
        let before : Run g (up producing) (chain_at i) (i + 1) forth_tokens = chain_forth i (omega arith) in
        let next : Run g (first + i) (chain_at (i + 1)) 1 0 = run_forth (last + 1 + i) (first + i) (chain_at (i + 1)) 0 2 (later_ends i (omega arith)) (later_within i (omega arith)) in
        run_as g (up producing) (chain_at (i + 1)) (i + 1 + 1) (forth_tokens + 0) (up producing) (chain_at (suc i)) (suc i + 1) forth_tokens refl (let e : i + 1 ≡ suc i = omega arith in ap chain_at e) (omega arith) (omega arith)
        (run_join g (up producing) (first + i) (chain_at (i + 1)) (i + 1) 1 forth_tokens 0 (subst (λ (n : ℕ). Run g (up producing) n (i + 1) forth_tokens) (chain_on i (omega arith)) before) next)

    chain_back : (i : ℕ) → i ≤ x → Run g (chain_at i) (up producing) (i + 1) (back_tokens + 2 * i)
    chain_back zero h = run_as g (chain_at 0) (up producing) 1 back_tokens (chain_at 0) (up producing) (0 + 1) (back_tokens + 2 * 0) refl refl (omega arith) (omega arith) (run_back last (up producing) (chain_at 0) forth_tokens (capacity p last) first_ends first_within)
    chain_back (suc i) h =
        let before : Run g (chain_at i) (up producing) (i + 1) (back_tokens + 2 * i) = chain_back i (omega arith) in
        let next : Run g (chain_at (i + 1)) (first + i) 1 2 = run_back (last + 1 + i) (first + i) (chain_at (i + 1)) 0 2 (later_ends i (omega arith)) (later_within i (omega arith)) in
        run_as g (chain_at (i + 1)) (up producing) (1 + (i + 1)) (2 + (back_tokens + 2 * i)) (chain_at (suc i)) (up producing) (suc i + 1) (back_tokens + 2 * suc i) (let e : i + 1 ≡ suc i = omega arith in ap chain_at e) refl (omega arith) (omega arith)
        (run_join g (chain_at (i + 1)) (first + i) (up producing) 1 (i + 1) 2 (back_tokens + 2 * i) next (subst (λ (n : ℕ). Run g n (up producing) (i + 1) (back_tokens + 2 * i)) (chain_on i (omega arith)) before))

    abbrev pub Runs : ℕ → ℕ → ℕ → ℕ → Type 0
    Runs a b l t = Run g (up a) (up b) l t

    pub walks : AreWalks Base producing consuming forth_tokens back_tokens x Runs
    walks = record {
      nil = λ a. record { edges = []; leads = refl; long = refl; tokens = refl };
      join = λ a b c l m t r h i. run_join g (up a) (up b) (up c) l m t r h i;
      base = base_run;
      along = subst (λ (n : ℕ). Run g (up producing) n (x + 1) forth_tokens) (chain_end x (omega arith)) (chain_forth x (omega arith));
      backward = subst (λ (n : ℕ). Run g n (up producing) (x + 1) (back_tokens + 2 * x)) (chain_end x (omega arith)) (chain_back x (omega arith));
    }
