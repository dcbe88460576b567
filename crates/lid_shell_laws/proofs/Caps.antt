-- Start tokens and caps: what a station starts with and the cap of who fills it make the rows, so caps fit the marking.
use Rattle.std.proofs.Common.{◌≡◌, ℕ, zero, suc, ◌+◌, ◌-◌, ◌<◌, ◌≤◌, ◌⊎◌, inl, inr, nat_lt, Bool, true, false, cond, length, refl, sym, ap, subst, lt-ltb, le-ltb, arith}
use Rattle.lid_graph.specs.declared.graph.Edge.{Edge}
use Rattle.lid_graph.specs.Walks.{edge_at}
use Rattle.lid_graph.specs.Firings.{AreFitCaps}
use Rattle.lid_system.specs.declared.System.{System}
use Rattle.lid_system.specs.Systems.{IsWellFormed}
use Rattle.lid_stations.specs.declared.placement.Placement.{Placement}
use Rattle.lid_stations.specs.Placements.{links_of, station_count, Fits}
use Rattle.lid_stations.specs.Stations.{Spot, actor_count, fills, starts, filler, drainer, start_count, capacity}
use Rattle.lid_stations.specs.Markings.{forth, back, self_edge, marking}
use Rattle.lid_stations.proofs.Spots.{Stands, stands, starts_small, cap_range, channel_there}
use Rattle.lid_stations.proofs.Edges.{forth_at, back_at, self_at, by_edge}
use Rattle.lid_shell_laws.specs.Runs.{cap_of, sink_of, starts_with}

-- what holds of each station's edge along and back, and of self edges, holds of all edges
pub each_edge : (s : System) (p : Placement) (P : Edge → Type 0)
    → ((station : ℕ) → station < station_count p.relays → P (forth (links_of s) p station))
    → ((station : ℕ) → station < station_count p.relays → P (back (links_of s) p station))
    → ((v : ℕ) → v < actor_count (links_of s) p → P (self_edge v))
    → (k : ℕ) → k < length (marking (links_of s) p).edges → P (edge_at (marking (links_of s) p) k)
each_edge s p P along backward self = by_edge s p (λ k. P (edge_at (marking (links_of s) p) k))
    (λ station h. subst P (sym (forth_at s p station h)) (along station h))
    (λ station h. subst P (sym (back_at s p station h)) (backward station h))
    (λ v h. subst P (sym (self_at s p v h)) (self v h))

module _ (s : System) where
  -- the source and the shells
  pub cap_before_sink : (rows v : ℕ) → v + 1 < length s.nodes → cap_of (links_of s) rows v ≡ rows - 1
  cap_before_sink rows v h = ap (λ (b : Bool). cond b (rows - 1) rows) (lt-ltb (v + 1) (length s.nodes) h)

  -- the sink and the movers
  pub cap_from_sink : (rows v : ℕ) → length s.nodes ≤ v + 1 → cap_of (links_of s) rows v ≡ rows
  cap_from_sink rows v h = ap (λ (b : Bool). cond b (rows - 1) rows) (le-ltb (v + 1) (length s.nodes) h)

  pub cap_of_sink : (rows : ℕ) → 2 ≤ length s.nodes → cap_of (links_of s) rows (sink_of (links_of s)) ≡ rows
  cap_of_sink rows h = cap_from_sink rows (length s.nodes - 1) (omega arith)

  pub cap_about : (rows v : ℕ) → (cap_of (links_of s) rows v ≤ rows) × (rows ≤ cap_of (links_of s) rows v + 1)
  cap_about rows v = by_kind (nat_lt (v + 1) (length s.nodes))
    where
      by_kind : (b : Bool) → (cond b (rows - 1) rows ≤ rows) × (rows ≤ cond b (rows - 1) rows + 1)
      by_kind true = (omega arith, omega arith)
      by_kind false = (omega arith, omega arith)

module _ (s : System) (p : Placement) (well : IsWellFormed s) (fits : Fits s p) where
  -- a node that is not the sink fills what starts with a token, and a mover what starts with none
  abbrev pub StartsBy : ℕ → ℕ → Type 0
  StartsBy v tokens = ((v + 1 < length s.nodes) × (tokens ≡ 1)) ⊎ ((length s.nodes ≤ v) × (tokens ≡ 0))

  starts_there : (c i : ℕ) → c < length p.relays → StartsBy (fills (links_of s) p c i) (starts i)
  starts_there c zero below = inl ((channel_there s p well fits c below).comes, refl)
  starts_there c (suc i) below = inr (omega arith, refl)

  pub starts_by : (station : ℕ) → station < station_count p.relays → StartsBy (filler (links_of s) p station) (start_count p station)
  starts_by station h = by_spot (stands p.relays station h)
    where
      by_spot : Stands p.relays station → StartsBy (filler (links_of s) p station) (start_count p station)
      by_spot at = subst (λ (spot : Spot). StartsBy (fills (links_of s) p spot.channel spot.place) (starts spot.place)) (sym at.is.spot) (starts_there at.channel at.place at.is.below)

  pub start_small : (station : ℕ) → start_count p station ≤ 1
  start_small station = starts_small _

  pub start_and_cap : (rows station : ℕ) → station < station_count p.relays → starts_with p rows station + cap_of (links_of s) rows (filler (links_of s) p station) ≡ rows
  start_and_cap rows station h = by_kind (starts_by station h)
    where
      by_kind : StartsBy (filler (links_of s) p station) (start_count p station) → starts_with p rows station + cap_of (links_of s) rows (filler (links_of s) p station) ≡ rows
      by_kind (inl node) = omega (arith, node.1, cap_before_sink s rows (filler (links_of s) p station) node.0)
      by_kind (inr mover) = let past = mover.0 in omega (arith, mover.1, cap_from_sink s rows (filler (links_of s) p station) (omega arith))

  -- no edge lets its end fall behind its cap
  pub caps_fit : (rows : ℕ) → AreFitCaps (marking (links_of s) p) (cap_of (links_of s) rows)
  caps_fit rows = each_edge s p (λ e. cap_of (links_of s) rows e.to ≤ cap_of (links_of s) rows e.from + e.tokens) along backward (λ v h. omega arith)
    where
      along : (station : ℕ) → station < station_count p.relays → cap_of (links_of s) rows (drainer (links_of s) p station) ≤ cap_of (links_of s) rows (filler (links_of s) p station) + start_count p station
      along station h = let most = (cap_about s rows (drainer (links_of s) p station)).0 in omega (arith, start_and_cap rows station h)

      backward : (station : ℕ) → station < station_count p.relays → cap_of (links_of s) rows (filler (links_of s) p station) ≤ cap_of (links_of s) rows (drainer (links_of s) p station) + (capacity p station - start_count p station)
      backward station h =
          let most = (cap_about s rows (filler (links_of s) p station)).0 in
          let least = (cap_about s rows (drainer (links_of s) p station)).1 in
          let room = (cap_range s p well fits station h).0 in
          omega (arith, start_small station)
