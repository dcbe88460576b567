-- The consequences of a certificate.
use Rattle.std.proofs.Common.{◌≡◌, ℕ, zero, suc, ◌+◌, ◌-◌, ◌*◌, ◌/◌, ◌%◌, ◌<◌, ◌≤◌, ◌⊎◌, inl, inr, Bool, true, false, cond, List, [], ◌∷◌, length, Option, Some, None, refl, sym, ◌∙◌, ap, subst, arith}
use Rattle.std.specs.Int.{div_ceil}
use Rattle.std.specs.List.{Contains, filter}
use Rattle.std.specs.Option.{MatchOption}
use Rattle.std.proofs.lemmas.Bool.{cases_eq, cases_lt}
use Rattle.std.proofs.lemmas.Grind.{div_ceil_times}
use Rattle.std.proofs.lemmas.List.Elements.{All-contains}
use Rattle.std.proofs.lemmas.List.Sums.{length-filter}
use Rattle.std.proofs.Math.Nat.{mul-le-mul_left, mul-le-mul_right, div-add-mod}
use Rattle.lid_graph.specs.declared.graph.Graph.{Graph}
use Rattle.lid_graph.specs.Walks.{edge_at, IsPaired, IsWalk, IsClosedWalk, IsJoined, walk_start, walk_tokens}
use Rattle.lid_graph.specs.Firings.{Counts, no_hold, firings, least_into, AreFitCaps}
use Rattle.lid_graph.specs.Ratios.{IsClosedWalkNear, IsRatio}
use Rattle.lid_graph.proofs.Counting.{Allowing, least_into_cases, firings_cap, firings_edge, firings_walk, firings_cycles}
use Rattle.lid_graph.proofs.Journeys.{joined_step, joined_back}
use Rattle.lid_cert.specs.declared.cert.Part.{Part}
use Rattle.lid_cert.specs.declared.cert.Cert.{Cert}
use Rattle.lid_cert.specs.Certificates.{has_node, lag_of, lead_of, depth_of, via_of, IsPart, IsVia, parts_with}
use Rattle.lid_cert.specs.Laws.{ShowsTransition, EachIsShown, WalksMeetRatio, RatioIsShown, LagsAreShown, LeadsBoundFirings, LagsBoundFirings, CapsAreReached}
use Rattle.lid_cert.proofs.Parts.{node_within, node_met, edge_met, stays_forth, stays_back, lag_along}

part_of : (g : Graph) (cert : Cert) (part : Part) (v : ℕ) → ShowsTransition g cert part v → IsPart g part
part_of g cert part v shows = All-contains (IsPart g) cert.parts part shows.certifies.parts shows.stands

-- with a lead for the last cycle but one of a turn, a count of at most one for each cycle is within the lead
turn_lead : (p q a k f lead : ℕ) → k ≤ a → f ≤ k → q * a ≤ lead + p * a → q * f ≤ p * k + lead
turn_lead p q a k f lead within few enough = by_order (cases_lt p q)
  where
    by_excess : (e : ℕ) → q ≡ p + e → q * f ≤ p * k + lead
    by_excess e is =
        let counted : q * f ≤ q * k = mul-le-mul_left q few in
        let short : e * k ≤ e * a = mul-le-mul_left e within in
        let here : q * k ≡ (p + e) * k = ap (λ (n : ℕ). n * k) is in
        let there : q * a ≡ (p + e) * a = ap (λ (n : ℕ). n * a) is in
        omega arith

    by_order : (p < q) ⊎ (q ≤ p) → q * f ≤ p * k + lead
    by_order (inl less) = by_excess (q - p) (omega arith)
    by_order (inr more) = let counted : q * f ≤ q * k = mul-le-mul_left q few in let slower : q * k ≤ p * k = mul-le-mul_right k more in omega arith

-- the transitions of a part are joined
module _ (g : Graph) (part : Part) (meets : IsPart g part) where
  abbrev JoinsBelow : ℕ → Type 0
  JoinsBelow d = (u : ℕ) → depth_of part u < d → has_node part u ≡ true → IsJoined g (walk_start g part.cycle) u

  -- via edges lead from where the walk starts to each transition
  joins_below : (d v : ℕ) → depth_of part v < d → has_node part v ≡ true → IsJoined g (walk_start g part.cycle) v
  joins_below zero v h inside = absurd (omega arith)
  joins_below (suc d) v h inside = by_start (λ u deep begins. joins_below d u deep begins) (cases_eq v (walk_start g part.cycle))
    where
      by_via : JoinsBelow d → (o : Option ℕ) → MatchOption o ⊥ (IsVia g part v) → IsJoined g (walk_start g part.cycle) v
      by_via earlier None none = absurd none
      by_via earlier (Some i) via =
          let deep : depth_of part (edge_at g i).from < d = omega (arith, via.depth) in
          let edge : IsWalk g (edge_at g i).from (i ∷ []) v = (via.within, refl, via.ends) in
          joined_step g (walk_start g part.cycle) (edge_at g i).from v (earlier (edge_at g i).from deep via.begins) (i ∷ [], edge)

      by_start : JoinsBelow d → (v ≡ walk_start g part.cycle) ⊎ (v ≡ walk_start g part.cycle → ⊥) → IsJoined g (walk_start g part.cycle) v
      by_start earlier (inl is) = ([], sym is)
      by_start earlier (inr other) = by_via earlier (via_of part v) (node_met g part meets v (walk_start g part.cycle) refl inside other)

  pub joined_from_start : (v : ℕ) → has_node part v ≡ true → IsJoined g (walk_start g part.cycle) v
  joined_from_start v inside = joins_below (suc (depth_of part v)) v (omega arith) inside

  -- so the closed walk is one of the component of each
  pub cycle_near : IsPaired g → (v : ℕ) → has_node part v ≡ true → IsClosedWalkNear g v part.cycle
  cycle_near paired v inside = (let there = joined_from_start v inside in (meets.inside.walk, joined_back g paired there.0 (walk_start g part.cycle) v there.1))

module _ (g : Graph) (paired : IsPaired g) (part : Part) (meets : IsPart g part) (cap : Counts) where
  -- where the walk starts, by turns of the walk
  lead_start_turns : (turns k : ℕ) → k < length part.cycle → part.q * firings g cap no_hold (k + turns * length part.cycle) (walk_start g part.cycle) ≤ part.p * (k + turns * length part.cycle) + lead_of part (walk_start g part.cycle)
  lead_start_turns zero k h =
      let few : firings g cap no_hold k (walk_start g part.cycle) ≤ k = firings_cycles g cap paired k (walk_start g part.cycle) (node_within g part meets (walk_start g part.cycle) meets.inside.start.inside) in
      let same : k + 0 * length part.cycle ≡ k = omega arith in
      subst (λ (n : ℕ). part.q * firings g cap no_hold n (walk_start g part.cycle) ≤ part.p * n + lead_of part (walk_start g part.cycle)) (sym same)
      (turn_lead part.p part.q (length part.cycle - 1) k (firings g cap no_hold k (walk_start g part.cycle)) (lead_of part (walk_start g part.cycle)) (omega arith) few meets.inside.start.lead)
  lead_start_turns (suc turns) k h =
      let before = lead_start_turns turns k h in
      let turn : firings g cap no_hold ((k + turns * length part.cycle) + length part.cycle) (walk_start g part.cycle) ≤ firings g cap no_hold (k + turns * length part.cycle) (walk_start g part.cycle) + walk_tokens g part.cycle
      = firings_walk g cap part.cycle (k + turns * length part.cycle) (walk_start g part.cycle) (walk_start g part.cycle) meets.inside.walk.closed in
      let scaled = mul-le-mul_left part.q turn in
      let tokens : walk_tokens g part.cycle * part.q ≡ part.p * length part.cycle = meets.inside.ratio in
      let same : (k + turns * length part.cycle) + length part.cycle ≡ k + suc turns * length part.cycle = omega arith in
      subst (λ (n : ℕ). part.q * firings g cap no_hold n (walk_start g part.cycle) ≤ part.p * n + lead_of part (walk_start g part.cycle)) same
      (omega arith)

  lead_start : (k : ℕ) → part.q * firings g cap no_hold k (walk_start g part.cycle) ≤ part.p * k + lead_of part (walk_start g part.cycle)
  lead_start k =
      let some : 0 < length part.cycle = meets.inside.walk.some in
      let below : k % length part.cycle < length part.cycle = omega arith in
      let same : k % length part.cycle + (k / length part.cycle) * length part.cycle ≡ k = omega (arith, div-add-mod k (length part.cycle)) in
      subst (λ (n : ℕ). part.q * firings g cap no_hold n (walk_start g part.cycle) ≤ part.p * n + lead_of part (walk_start g part.cycle)) same
      (lead_start_turns (k / length part.cycle) (k % length part.cycle) below)

  -- the bound for all transitions of less depth
  abbrev LeadsBelow : ℕ → Type 0
  LeadsBelow d = (k u : ℕ) → depth_of part u < d → has_node part u ≡ true → part.q * firings g cap no_hold k u ≤ part.p * k + lead_of part u

  -- elsewhere along via edges, by depth
  lead_below : (d k v : ℕ) → depth_of part v < d → has_node part v ≡ true → part.q * firings g cap no_hold k v ≤ part.p * k + lead_of part v
  unfolding firings
  lead_below zero k v h inside = absurd (omega arith)
  lead_below (suc d) k v h inside = by_start (λ k u deep begins. lead_below d k u deep begins) (cases_eq v (walk_start g part.cycle))
    where
      along : LeadsBelow d → (i : ℕ) → IsVia g part v i → (k : ℕ) → part.q * firings g cap no_hold k v ≤ part.p * k + lead_of part v
      along earlier i via zero = omega arith
      along earlier i via (suc k) =
          let deep : depth_of part (edge_at g i).from < d = omega (arith, via.depth) in
          let before : part.q * firings g cap no_hold k (edge_at g i).from ≤ part.p * k + lead_of part (edge_at g i).from = earlier k (edge_at g i).from deep via.begins in
          let edge : firings g cap no_hold (suc k) (edge_at g i).to ≤ firings g cap no_hold k (edge_at g i).from + (edge_at g i).tokens = firings_edge g cap k i via.within in
          let scaled = mul-le-mul_left part.q edge in
          let lead = via.lead in
          subst (λ (n : ℕ). part.q * firings g cap no_hold (suc k) n ≤ part.p * suc k + lead_of part v) via.ends (omega arith)

      by_via : LeadsBelow d → (o : Option ℕ) → MatchOption o ⊥ (IsVia g part v) → part.q * firings g cap no_hold k v ≤ part.p * k + lead_of part v
      by_via earlier None none = absurd none
      by_via earlier (Some i) via = along earlier i via k

      by_start : LeadsBelow d → (v ≡ walk_start g part.cycle) ⊎ (v ≡ walk_start g part.cycle → ⊥) → part.q * firings g cap no_hold k v ≤ part.p * k + lead_of part v
      by_start earlier (inl is) = subst (λ (n : ℕ). part.q * firings g cap no_hold k n ≤ part.p * k + lead_of part n) (sym is) (lead_start k)
      by_start earlier (inr other) = by_via earlier (via_of part v) (node_met g part meets v (walk_start g part.cycle) refl inside other)

  pub lead_bounds : (k v : ℕ) → has_node part v ≡ true → part.q * firings g cap no_hold k v ≤ part.p * k + lead_of part v
  lead_bounds k v inside = lead_below (suc (depth_of part v)) k v (omega arith) inside

  -- below the cap, by cycles
  pub lag_bounds : AreFitCaps g cap → (k v : ℕ) → has_node part v ≡ true → firings g cap no_hold k v < cap v → part.p * k ≤ part.q * firings g cap no_hold k v + lag_of part v
  unfolding firings
  lag_bounds fit zero v inside below = omega arith
  lag_bounds fit (suc k) v inside below = by_least (λ u inside below. lag_bounds fit k u inside below) (least_into_cases g.edges (firings g cap no_hold k) v (cap v)) below
    where
      by_least : ((u : ℕ) → has_node part u ≡ true → firings g cap no_hold k u < cap u → part.p * k ≤ part.q * firings g cap no_hold k u + lag_of part u) → (least_into g.edges (firings g cap no_hold k) v (cap v) ≡ cap v) ⊎ Allowing g.edges (firings g cap no_hold k) v (least_into g.edges (firings g cap no_hold k) v (cap v)) → firings g cap no_hold (suc k) v < cap v → part.p * suc k ≤ part.q * firings g cap no_hold (suc k) v + lag_of part v
      by_least earlier (inl is) h = absurd (omega arith)
      by_least earlier (inr a) h =
          let met = edge_met g part meets a.edge a.within in
          let to : has_node part (edge_at g a.edge).to ≡ true = ap (has_node part) a.ends ∙ inside in
          let from : has_node part (edge_at g a.edge).from ≡ true = met.stays ∙ to in
          let caps : cap (edge_at g a.edge).to ≤ cap (edge_at g a.edge).from + (edge_at g a.edge).tokens = fit a.edge a.within in
          let cap_same : cap (edge_at g a.edge).to ≡ cap v = ap cap a.ends in
          let lag_same : lag_of part (edge_at g a.edge).to ≡ lag_of part v = ap (lag_of part) a.ends in
          let lag : lag_of part (edge_at g a.edge).from + part.p ≤ lag_of part (edge_at g a.edge).to + part.q * (edge_at g a.edge).tokens = met.lag to in
          let is : least_into g.edges (firings g cap no_hold k) v (cap v) ≡ firings g cap no_hold k (edge_at g a.edge).from + (edge_at g a.edge).tokens = a.is in
          let low : firings g cap no_hold k (edge_at g a.edge).from < cap (edge_at g a.edge).from = omega arith in
          let before : part.p * k ≤ part.q * firings g cap no_hold k (edge_at g a.edge).from + lag_of part (edge_at g a.edge).from = earlier (edge_at g a.edge).from from low in
          let scaled : part.q * least_into g.edges (firings g cap no_hold k) v (cap v) ≡ part.q * (firings g cap no_hold k (edge_at g a.edge).from + (edge_at g a.edge).tokens) = ap (λ (n : ℕ). part.q * n) is in
          omega arith

  -- a closed walk of the part has at least p tokens for q edges
  pub walk_has_tokens : (ks : List ℕ) → IsClosedWalk g ks → has_node part (walk_start g ks) ≡ true → part.p * length ks ≤ part.q * walk_tokens g ks
  walk_has_tokens ks closed inside =
      let along = lag_along g part meets ks (walk_start g ks) (walk_start g ks) closed.closed inside in
      omega arith

  pub shown_ratio : (v : ℕ) → has_node part v ≡ true → IsRatio g v part.p part.q
  shown_ratio v inside =
      let ratio : walk_tokens g part.cycle * part.q ≡ part.p * length part.cycle = meets.inside.ratio in
      record {
        positive = meets.inside.positive;
        lowest = meets.inside.lowest;
        all = λ ks near. walk_has_tokens ks near.0 (stays_forth g part meets near.1.0 v (walk_start g ks) near.1.1 inside);
        some = (part.cycle, cycle_near g part meets paired v inside, omega arith);
      }

  -- after so many cycles the cap is reached
  pub cap_reached : AreFitCaps g cap → 0 < part.p → (k v : ℕ) → has_node part v ≡ true → part.q * cap v + lag_of part v ≤ part.p * k → firings g cap no_hold k v ≡ cap v
  cap_reached fit some k v inside enough = by_order (cases_lt (firings g cap no_hold k v) (cap v))
    where
      by_order : (firings g cap no_hold k v < cap v) ⊎ (cap v ≤ firings g cap no_hold k v) → firings g cap no_hold k v ≡ cap v
      by_order (inl below) =
          let bound = lag_bounds fit k v inside below in
          let more : part.q * suc (firings g cap no_hold k v) ≤ part.q * cap v = mul-le-mul_left part.q below in
          let positive = meets.inside.positive in
          absurd (omega arith)
      by_order (inr reached) = let most = firings_cap g cap no_hold k v in omega arith

-- the least number at which f comes to c
record First (f : ℕ → ℕ) (c below : ℕ) : Type 0 where
  pub at : ℕ
  pub is : f at ≡ c
  pub first : (j : ℕ) → f j ≡ c → at ≤ j
  pub within : at < below

first_below : (f : ℕ → ℕ) (c n : ℕ) → First f c n ⊎ ((j : ℕ) → j < n → f j ≡ c → ⊥)
first_below f c zero = inr (λ j h e. absurd (omega arith))
first_below f c (suc n) = by_rest (first_below f c n) (cases_eq (f n) c)
  where
    new : ((j : ℕ) → j < n → f j ≡ c → ⊥) → f n ≡ c → (j : ℕ) → f j ≡ c → (j < n) ⊎ (n ≤ j) → n ≤ j
    new none is j e (inl h) = absurd (none j h e)
    new none is j e (inr h) = h

    neither : ((j : ℕ) → j < n → f j ≡ c → ⊥) → (f n ≡ c → ⊥) → (j : ℕ) → f j ≡ c → (j < n) ⊎ (n ≤ j) → j < suc n → ⊥
    neither none other j e (inl h) l = none j h e
    neither none other j e (inr h) l = let same : j ≡ n = omega arith in other (subst (λ (i : ℕ). f i ≡ c) same e)

    by_rest : First f c n ⊎ ((j : ℕ) → j < n → f j ≡ c → ⊥) → (f n ≡ c) ⊎ (f n ≡ c → ⊥) → First f c (suc n) ⊎ ((j : ℕ) → j < suc n → f j ≡ c → ⊥)
    by_rest (inl found) e = inl (record { at = found.at; is = found.is; first = found.first; within = omega (arith, found.within) })
    by_rest (inr none) (inl is) = inl (record { at = n; is = is; first = λ j e. new none is j e (cases_lt j n); within = omega arith })
    by_rest (inr none) (inr other) = inr (λ j h e. neither none other j e (cases_lt j n) h)

least_at : (f : ℕ → ℕ) (c n : ℕ) → f n ≡ c → First f c (suc n)
least_at f c n is = by_search (first_below f c (suc n))
  where
    by_search : First f c (suc n) ⊎ ((j : ℕ) → j < suc n → f j ≡ c → ⊥) → First f c (suc n)
    by_search (inl found) = found
    by_search (inr none) = absurd (none n (omega arith) is)

-- of a list in which one passes, one that passes
some_passes : (p : Part → Bool) (xs : List Part) → 0 < length (filter p xs) → (x : Part) × Contains xs x × (p x ≡ true)
some_passes p [] h = absurd (omega arith)
some_passes p (x ∷ xs) h = by_head (p x) refl h (λ h. some_passes p xs h)
  where
    later : (y : Part) × Contains xs y × (p y ≡ true) → (y : Part) × Contains (x ∷ xs) y × (p y ≡ true)
    later y = (y.0, (suc y.1.0, omega (arith, y.1.1), y.1.2), y.2)

    by_head : (b : Bool) → p x ≡ b → 0 < length (cond b (x ∷ filter p xs) (filter p xs)) → (0 < length (filter p xs) → (y : Part) × Contains xs y × (p y ≡ true)) → (y : Part) × Contains (x ∷ xs) y × (p y ≡ true)
    by_head true e h rest = (x, (0, omega arith, refl), e)
    by_head false e h rest = later (rest h)

pub each_is_shown : EachIsShown
each_is_shown g cert v paired certifies h =
    let once : parts_with cert v ≡ 1 = certifies.once v h in
    let count = length-filter (λ part. has_node part v) cert.parts in
    let found = some_passes (λ part. has_node part v) cert.parts (omega arith) in
    (found.0, record { paired = paired; certifies = certifies; stands = found.1; inside = found.2 })

pub walks_have_tokens : WalksMeetRatio
walks_have_tokens g cert part ks shows closed =
    let bound = walk_has_tokens g shows.paired part (part_of g cert part (walk_start g ks) shows) (λ v. 0) ks closed shows.inside in
    omega arith

pub ratio_is_shown : RatioIsShown
ratio_is_shown g cert part v shows = shown_ratio g shows.paired part (part_of g cert part v shows) (λ v. 0) v shows.inside

pub lags_are_shown : LagsAreShown
lags_are_shown g cert part v u ks shows walk =
    let meets = part_of g cert part v shows in
    let along = lag_along g part meets ks u v walk (stays_back g part meets ks u v walk shows.inside) in
    omega arith

pub leads_bound_firings : LeadsBoundFirings
leads_bound_firings g cert part v cap k shows fit = lead_bounds g shows.paired part (part_of g cert part v shows) cap k v shows.inside

pub lags_bound_firings : LagsBoundFirings
lags_bound_firings g cert part v cap k shows fit below = lag_bounds g shows.paired part (part_of g cert part v shows) cap fit k v shows.inside below

pub caps_are_reached : CapsAreReached
caps_are_reached g cert part v cap shows fit some =
    let enough : part.q * cap v + lag_of part v ≤ part.p * div_ceil (part.q * cap v + lag_of part v) part.p = omega (arith, (div_ceil_times (part.q * cap v + lag_of part v) part.p some).0) in
    let reached = cap_reached g shows.paired part (part_of g cert part v shows) cap fit some (div_ceil (part.q * cap v + lag_of part v) part.p) v shows.inside enough in
    let least = least_at (λ k. firings g cap no_hold k v) (cap v) (div_ceil (part.q * cap v + lag_of part v) part.p) reached in
    (least.at, record { reached = least.is; first = least.first }, omega (arith, least.within))
