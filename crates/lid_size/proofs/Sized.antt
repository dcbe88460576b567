-- Markings that differ in their capacities alone.
use Rattle.std.proofs.Common.{◌≡◌, ℕ, zero, suc, ◌+◌, ◌<◌, ◌≤◌, inl, inr, List, length, get_or, refl, sym, ◌∙◌, ap, subst, arith}
use Rattle.std.specs.List.{All}
use Rattle.lid_graph.specs.declared.graph.Edge.{Edge}
use Rattle.lid_graph.specs.Walks.{edge_at}
use Rattle.lid_system.specs.declared.System.{System}
use Rattle.lid_system.specs.Systems.{IsWellFormed}
use Rattle.lid_stations.specs.declared.placement.Placement.{Placement}
use Rattle.lid_stations.specs.Placements.{links_of, station_count, IsCapacity, Fits}
use Rattle.lid_stations.specs.Stations.{spot_at, fills, filler, drainer, start_count}
use Rattle.lid_stations.specs.Markings.{forth}
use Rattle.lid_stations.proofs.Edges.{by_edge, forth_at, back_at, self_at, node_count, edges_long, no_others, selves_there}
use Rattle.lid_stations.proofs.Alive.{rateable}
use Rattle.lid_stations.proofs.Spots.{starts_small}
use Rattle.lid_size_laws.specs.Capacities.{IsForward}
use Rattle.lid_size_laws.specs.Differing.{AreAlike, HasNoMore, DifferInCapacities}
use Rattle.lid_size_laws.proofs.Forward.{ratios_stay, greater_keep}
use Rattle.lid_rate_ratio.specs.declared.lowest_terms.Ratio.{Ratio}
use Rattle.lid_size.specs.Sizing.{with_capacities, sized, AreCapacities, Reaches}
use Rattle.lid_size_forward.specs.ForwardParts.{HasStations, AreForwardRatios}

module _ (s : System) (relays xs ys : List ℕ) where
  abbrev old : Placement
  old = with_capacities relays xs

  abbrev new : Placement
  new = with_capacities relays ys

  abbrev count : ℕ
  count = station_count relays

  fills_same : (c i : ℕ) → fills (links_of s) old c i ≡ fills (links_of s) new c i
  fills_same c zero = refl
  fills_same c (suc i) = refl

  filler_same : (station : ℕ) → filler (links_of s) old station ≡ filler (links_of s) new station
  filler_same station = fills_same (spot_at relays station).channel (spot_at relays station).place

  forth_same : (station : ℕ) → forth (links_of s) old station ≡ forth (links_of s) new station
  forth_same station = ap (λ (n : ℕ). let e : Edge = record { from = n; to = drainer (links_of s) new station; tokens = start_count new station } in e) (filler_same station)

  -- the edges of number k have the same ends, and where they lead forth as many tokens
  record IsChange (k : ℕ) : Type 0 where
    from : (edge_at (sized (links_of s) relays xs) k).from ≡ (edge_at (sized (links_of s) relays ys) k).from
    to : (edge_at (sized (links_of s) relays xs) k).to ≡ (edge_at (sized (links_of s) relays ys) k).to
    forward : IsForward count k → (edge_at (sized (links_of s) relays xs) k).tokens ≡ (edge_at (sized (links_of s) relays ys) k).tokens

  change_of : (k : ℕ) → edge_at (sized (links_of s) relays xs) k ≡ edge_at (sized (links_of s) relays ys) k → IsChange k
  change_of k same = record { from = ap (λ (e : Edge). e.from) same; to = ap (λ (e : Edge). e.to) same; forward = λ forth. ap (λ (e : Edge). e.tokens) same }

  not_forward : (station : ℕ) → station < count → IsForward count (suc (station + station)) → ⊥
  not_forward station h (inl at) = let is = at.2 in omega arith
  not_forward station h (inr late) = omega arith

  change_back : (station : ℕ) → station < count → IsChange (suc (station + station))
  change_back station h =
      let a = back_at s old station h in
      let b = back_at s new station h in
      record {
        from = ap (λ (e : Edge). e.from) a ∙ sym (ap (λ (e : Edge). e.from) b);
        to = ap (λ (e : Edge). e.to) a ∙ (filler_same station ∙ sym (ap (λ (e : Edge). e.to) b));
        forward = λ forth. absurd (not_forward station h forth);
      }

  change : (k : ℕ) → k < length (sized (links_of s) relays xs).edges → IsChange k
  change k h =
      by_edge s old IsChange
      (λ station l. change_of (station + station) (forth_at s old station l ∙ (forth_same station ∙ sym (forth_at s new station l))))
      change_back
      (λ v l. change_of ((count + count) + v) (self_at s old v l ∙ sym (self_at s new v l)))
      k h

  pub alike : AreAlike (sized (links_of s) relays xs) (sized (links_of s) relays ys)
  alike = record {
    nodes = node_count s old ∙ sym (node_count s new);
    count = edges_long s old ∙ sym (edges_long s new);
    from = λ k h. (change k h).from;
    to = λ k h. (change k h).to;
  }

  pub differ : DifferInCapacities (station_count relays) (sized (links_of s) relays xs) (sized (links_of s) relays ys)
  differ = record { alike = alike; forward = λ k h forth. (change k h).forward forth }

  -- no capacity is less
  module _ (less : (station : ℕ) → get_or xs station 2 ≤ get_or ys station 2) where
    abbrev Fewer : ℕ → Type 0
    Fewer k = (edge_at (sized (links_of s) relays xs) k).tokens ≤ (edge_at (sized (links_of s) relays ys) k).tokens

    few_of : (k : ℕ) → edge_at (sized (links_of s) relays xs) k ≡ edge_at (sized (links_of s) relays ys) k → Fewer k
    few_of k same = let e = ap (λ (e : Edge). e.tokens) same in omega arith

    few_back : (station : ℕ) → station < count → Fewer (suc (station + station))
    few_back station h =
        let a = ap (λ (e : Edge). e.tokens) (back_at s old station h) in
        let b = ap (λ (e : Edge). e.tokens) (back_at s new station h) in
        let l = less station in
        omega arith

    pub no_more : HasNoMore (sized (links_of s) relays xs) (sized (links_of s) relays ys)
    no_more = record {
      alike = alike;
      tokens = by_edge s old Fewer
          (λ station l. few_of (station + station) (forth_at s old station l ∙ (forth_same station ∙ sym (forth_at s new station l))))
          few_back
          (λ v l. few_of ((count + count) + v) (self_at s old v l ∙ sym (self_at s new v l)));
    }

    pub reach_up : Reaches (links_of s) relays xs → Reaches (links_of s) relays ys
    unfolding Reaches
    reach_up reach v h = greater_keep (station_count relays) (sized (links_of s) relays xs) (sized (links_of s) relays ys) v differ no_more (reach v (let n = alike.nodes in omega arith))

  pub wants_stay : (wants : List Ratio) → AreForwardRatios (sized (links_of s) relays xs) (station_count relays) wants → AreForwardRatios (sized (links_of s) relays ys) (station_count relays) wants
  wants_stay wants are = record {
    count = are.count ∙ alike.nodes;
    each = λ v h. ratios_stay (station_count relays) (sized (links_of s) relays xs) (sized (links_of s) relays ys) v _ _ differ (are.each v (let n = alike.nodes in omega arith));
    small_p = λ v h. are.small_p v (let n = alike.nodes in omega arith);
    small_q = λ v h. are.small_q v (let n = alike.nodes in omega arith);
  }

-- the edge back of a station has as many tokens more as its capacity is greater
module _ (s : System) (relays xs ys : List ℕ) (station : ℕ) (h : station < station_count relays) (some : 1 ≤ get_or xs station 2) (all : 1 ≤ get_or ys station 2) where
  pub back_tokens : (edge_at (sized (links_of s) relays xs) (suc (station + station))).tokens + get_or ys station 2 ≡ get_or xs station 2 + (edge_at (sized (links_of s) relays ys) (suc (station + station))).tokens
  back_tokens =
      let a = ap (λ (e : Edge). e.tokens) (back_at s (with_capacities relays xs) station h) in
      let b = ap (λ (e : Edge). e.tokens) (back_at s (with_capacities relays ys) station h) in
      let low = starts_small (spot_at relays station).place in
      omega arith

pub has_stations : (s : System) (relays caps : List ℕ) → IsWellFormed s → Fits s (with_capacities relays caps) → HasStations (sized (links_of s) relays caps) (station_count relays)
has_stations s relays caps well fits = record {
  rateable = rateable s (with_capacities relays caps) well fits;
  count = (let a = no_others s (with_capacities relays caps) in let b = node_count s (with_capacities relays caps) in omega arith);
  selves = λ v h. selves_there s (with_capacities relays caps) v (let b = node_count s (with_capacities relays caps) in omega arith);
}

-- so does one that has them
pub fits_trial : (s : System) (p q : Placement) (caps : List ℕ) → q.relays ≡ p.relays → q.caps ≡ caps → AreCapacities (station_count p.relays) caps → Fits s p → Fits s q
fits_trial s p q caps relays_are caps_are are fits = record {
  rules = record {
    few = subst (All (λ k. k ≤ 64)) (sym relays_are) fits.rules.few;
    most = subst (λ (l : List ℕ). station_count l ≤ 65536) (sym relays_are) fits.rules.most;
    caps = ap length caps_are ∙ (are.count ∙ ap station_count (sym relays_are));
    range = subst (All IsCapacity) (sym caps_are) are.range;
  };
  counts = ap length relays_are ∙ fits.counts;
}
