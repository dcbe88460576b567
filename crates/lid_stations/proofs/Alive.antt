-- Markings are paired graphs, and each closed walk has a token: edges without one rise, from mover to mover,
-- and to nodes.
use Rattle.std.proofs.Common.{◌≡◌, ℕ, zero, suc, ◌+◌, ◌<◌, ◌≤◌, ◌==◌, nat_lt, Bool, true, false, cond, length, get_or, refl, sym, ◌∙◌, ap, lt-ltb, le-ltb, arith}
use Rattle.lid_graph.specs.declared.graph.Edge.{Edge}
use Rattle.lid_graph.specs.declared.graph.Graph.{Graph}
use Rattle.lid_graph.specs.Walks.{edge_at, AreEndsPaired, HasSelfEdge, WalksHaveTokens}
use Rattle.lid_graph.specs.Rateable.{IsRateable}
use Rattle.lid_graph_laws.specs.Laws.{RiseWithoutTokens}
use Rattle.lid_graph_laws.proofs.Alive.{numbers_show_tokens}
use Rattle.lid_system.specs.declared.System.{System}
use Rattle.lid_system.specs.Systems.{IsWellFormed}
use Rattle.lid_stations.specs.declared.placement.Placement.{Placement}
use Rattle.lid_stations.specs.Placements.{links_of, station_count, Fits}
use Rattle.lid_stations.specs.Stations.{Spot, actor_count, mover, channel_at, fills, drains, starts, start_count}
use Rattle.lid_stations.specs.Markings.{marking}
use Rattle.lid_stations.proofs.Spots.{Stands, stands, starts_small, few_actors, cap_range, channel_there, mover_below, stands_between}
use Rattle.lid_stations.proofs.Edges.{node_count, edges_long, forth_at, back_at, self_at, by_edge}

module _ (s : System) (p : Placement) (well : IsWellFormed s) (fits : Fits s p) where
  abbrev g : Graph
  g = marking (links_of s) p

  abbrev count : ℕ
  count = station_count p.relays

  abbrev from_of : Edge → ℕ
  from_of e = e.from

  abbrev to_of : Edge → ℕ
  to_of e = e.to

  abbrev tokens_of : Edge → ℕ
  tokens_of e = e.tokens

  -- edge k leads from a to b, and edge j back
  ends_paired : (k j a b : ℕ) → j < length g.edges → a < actor_count (links_of s) p → b < actor_count (links_of s) p
      → (edge_at g k).from ≡ a → (edge_at g k).to ≡ b → (edge_at g j).from ≡ b → (edge_at g j).to ≡ a → AreEndsPaired g k
  ends_paired k j a b there a_less b_less from to back_from back_to = record {
    from = omega (arith, from, node_count s p);
    to = omega (arith, to, node_count s p);
    back = (j, there, back_from ∙ sym to, back_to ∙ sym from);
  }

  forth_paired : (station : ℕ) → station < count → AreEndsPaired g (station + station)
  forth_paired station h =
      let between = stands_between s p well fits station h in
      ends_paired (station + station) (suc (station + station)) _ _ (omega (arith, edges_long s p)) between.filled between.drained
      (ap from_of (forth_at s p station h)) (ap to_of (forth_at s p station h)) (ap from_of (back_at s p station h)) (ap to_of (back_at s p station h))

  back_paired : (station : ℕ) → station < count → AreEndsPaired g (suc (station + station))
  back_paired station h =
      let between = stands_between s p well fits station h in
      ends_paired (suc (station + station)) (station + station) _ _ (omega (arith, edges_long s p)) between.drained between.filled
      (ap from_of (back_at s p station h)) (ap to_of (back_at s p station h)) (ap from_of (forth_at s p station h)) (ap to_of (forth_at s p station h))

  self_there : (v : ℕ) → v < actor_count (links_of s) p → HasSelfEdge g v
  self_there v h = ((count + count) + v, omega (arith, edges_long s p), ap from_of (self_at s p v h), ap to_of (self_at s p v h), ap tokens_of (self_at s p v h))

  self_paired : (v : ℕ) → v < actor_count (links_of s) p → AreEndsPaired g ((count + count) + v)
  self_paired v h =
      let at = self_at s p v h in
      ends_paired ((count + count) + v) ((count + count) + v) v v (omega (arith, edges_long s p)) h h (ap from_of at) (ap to_of at) (ap from_of at) (ap to_of at)

  small : (station : ℕ) → start_count p station ≤ 1
  small station = starts_small _

  few_tokens : (k : ℕ) → k < length g.edges → (edge_at g k).tokens ≤ 16
  few_tokens = by_edge s p (λ k. (edge_at g k).tokens ≤ 16) along backward (λ v h. omega (arith, ap tokens_of (self_at s p v h)))
    where
      along : (station : ℕ) → station < count → (edge_at g (station + station)).tokens ≤ 16
      along station h = omega (arith, ap tokens_of (forth_at s p station h), small station)

      backward : (station : ℕ) → station < count → (edge_at g (suc (station + station))).tokens ≤ 16
      backward station h = let range = cap_range s p well fits station h in let most = range.1 in omega (arith, ap tokens_of (back_at s p station h))

  pub rateable : IsRateable g
  rateable = record {
    paired = record { ends = by_edge s p (AreEndsPaired g) forth_paired back_paired self_paired; self = λ v h. self_there v (omega (arith, node_count s p)) };
    some = omega (arith, node_count s p, well.least);
    nodes = omega (arith, node_count s p, few_actors s p well fits);
    edges = omega (arith, edges_long s p, few_actors s p well fits, fits.rules.most);
    tokens = few_tokens;
  }

  -- a mover has its own number, and a node one above those of all movers
  number : ℕ → ℕ
  number v = cond (nat_lt v (length s.nodes)) (actor_count (links_of s) p) v

  of_node : (v : ℕ) → v < length s.nodes → number v ≡ actor_count (links_of s) p
  unfolding number
  of_node v h = ap (λ (b : Bool). cond b (actor_count (links_of s) p) v) (lt-ltb v (length s.nodes) h)

  of_mover : (v : ℕ) → length s.nodes ≤ v → number v ≡ v
  unfolding number
  of_mover v h = ap (λ (b : Bool). cond b (actor_count (links_of s) p) v) (le-ltb v (length s.nodes) h)

  -- past a relay station the number is higher
  rises_there : (c i : ℕ) → c < length p.relays → i ≤ get_or p.relays c 0 → starts i ≡ 0 → number (fills (links_of s) p c i) < number (drains (links_of s) p c i)
  rises_there c zero below within none = absurd (omega arith)
  rises_there c (suc i) below within none = by_last (suc i == get_or p.relays c 0) refl
    where
      by_last : (b : Bool) → suc i == get_or p.relays c 0 ≡ b → number (mover (links_of s) p c i) < number (cond b (channel_at (links_of s) c).to (mover (links_of s) p c (suc i)))
      by_last true e = let ends = (channel_there s p well fits c below).ends in omega (arith, of_mover (mover (links_of s) p c i) (omega arith), of_node (channel_at (links_of s) c).to ends, mover_below s p c i below (omega arith))
      by_last false e = omega (arith, of_mover (mover (links_of s) p c i) (omega arith), of_mover (mover (links_of s) p c (suc i)) (omega arith))

  rise : RiseWithoutTokens g number
  rise = by_edge s p (λ k. (edge_at g k).tokens ≡ 0 → number (edge_at g k).from < number (edge_at g k).to) along backward (λ v h none. absurd (omega (arith, ap tokens_of (self_at s p v h))))
    where
      by_spot : (station : ℕ) → station < count → Stands p.relays station → (edge_at g (station + station)).tokens ≡ 0 → number (edge_at g (station + station)).from < number (edge_at g (station + station)).to
      by_spot station h at none =
          let c = at.channel in
          let i = at.place in
          let from : number (edge_at g (station + station)).from ≡ number (fills (links_of s) p c i) = ap number (ap from_of (forth_at s p station h) ∙ ap (λ (spot : Spot). fills (links_of s) p spot.channel spot.place) at.is.spot) in
          let to : number (edge_at g (station + station)).to ≡ number (drains (links_of s) p c i) = ap number (ap to_of (forth_at s p station h) ∙ ap (λ (spot : Spot). drains (links_of s) p spot.channel spot.place) at.is.spot) in
          let tokens : (edge_at g (station + station)).tokens ≡ starts i = ap tokens_of (forth_at s p station h) ∙ ap (λ (spot : Spot). starts spot.place) at.is.spot in
          omega (arith, rises_there c i at.is.below at.is.within (sym tokens ∙ none))

      along : (station : ℕ) → station < count → (edge_at g (station + station)).tokens ≡ 0 → number (edge_at g (station + station)).from < number (edge_at g (station + station)).to
      along station h none = by_spot station h (stands p.relays station h) none

      backward : (station : ℕ) → station < count → (edge_at g (suc (station + station))).tokens ≡ 0 → number (edge_at g (suc (station + station))).from < number (edge_at g (suc (station + station))).to
      backward station h none = let range = cap_range s p well fits station h in let least = range.0 in absurd (omega (arith, ap tokens_of (back_at s p station h), small station))

  pub have_tokens : WalksHaveTokens g
  have_tokens = numbers_show_tokens g number rise
