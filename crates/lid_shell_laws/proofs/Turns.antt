-- The rule of firing: an actor that is not held fires where no edge into it keeps it back, and stations hold few tokens.
use Rattle.std.proofs.Common.{◌≡◌, ℕ, suc, ◌+◌, ◌-◌, ◌<◌, ◌≤◌, ◌⊎◌, inl, inr, Bool, true, false, cond, refl, ap, subst, arith}
use Rattle.lid_graph.specs.declared.graph.Edge.{Edge}
use Rattle.lid_graph.specs.declared.graph.Graph.{Graph}
use Rattle.lid_graph.specs.Firings.{Counts, Hold, least_into, firings}
use Rattle.lid_graph.proofs.Counting.{Allowing, least_into_most, least_into_edge, least_into_cases, firings_cap}
use Rattle.lid_graph_laws.proofs.Rising.{allows, rises, rises_by_one}
use Rattle.lid_system.specs.declared.System.{System}
use Rattle.lid_system.specs.Systems.{IsWellFormed}
use Rattle.lid_stations.specs.declared.placement.Placement.{Placement}
use Rattle.lid_stations.specs.Placements.{links_of, station_count, Fits}
use Rattle.lid_stations.specs.Stations.{actor_count, filler, drainer, start_count, capacity}
use Rattle.lid_stations.specs.Markings.{marking}
use Rattle.lid_stations.proofs.Spots.{cap_range}
use Rattle.lid_stations.proofs.Edges.{node_count, edges_long, forth_at, back_at}
use Rattle.lid_stations.proofs.Alive.{rateable}
use Rattle.lid_shell_laws.specs.Runs.{cap_of, fired_in}
use Rattle.lid_shell_laws.specs.Rules.{MayFire, MayNotFire, HoldsFew}
use Rattle.lid_shell_laws.proofs.Caps.{each_edge, cap_about, start_small, start_and_cap}

module _ (s : System) (p : Placement) (well : IsWellFormed s) (fits : Fits s p) (rows : ℕ) where
  abbrev g : Graph
  g = marking (links_of s) p

  abbrev cap : Counts
  cap = cap_of (links_of s) rows

  -- what each edge into v allows, from some counts
  abbrev Allows : Counts → ℕ → ℕ → Edge → Type 0
  Allows counts v n e = e.to ≡ v → n ≤ counts e.from + e.tokens

  module _ (counts : Counts) (v : ℕ) where
    abbrev now : ℕ
    now = least_into g.edges counts v (cap v)

    -- an actor that may fire has a turn more
    fires_once_more : MayFire (links_of s) p rows counts v → counts v + 1 ≤ now
    fires_once_more may = by_least (least_into_cases g.edges counts v (cap v))
      where
        some_rows : 1 ≤ rows
        some_rows = let most = (cap_about s rows v).0 in omega (arith, may.below)

        along : (station : ℕ) → station < station_count p.relays → drainer (links_of s) p station ≡ v → counts v + 1 ≤ counts (filler (links_of s) p station) + start_count p station
        along station h is =
            let same : counts (drainer (links_of s) p station) ≡ counts v = ap counts is in
            omega (arith, may.tokens station h is)

        backward : (station : ℕ) → station < station_count p.relays → filler (links_of s) p station ≡ v → counts v + 1 ≤ counts (drainer (links_of s) p station) + (capacity p station - start_count p station)
        backward station h is =
            let same : counts (filler (links_of s) p station) ≡ counts v = ap counts is in
            omega (arith, may.room station h is, start_small s p well fits station, some_rows)

        self : (u : ℕ) → u < actor_count (links_of s) p → u ≡ v → counts v + 1 ≤ counts u + 1
        self u h is = let same : counts u ≡ counts v = ap counts is in omega arith

        by_least : (now ≡ cap v) ⊎ Allowing g.edges counts v now → counts v + 1 ≤ now
        by_least (inl is) = omega (arith, may.below)
        by_least (inr a) = omega (arith, a.is, each_edge s p (Allows counts v (counts v + 1)) along backward self a.edge a.within a.ends)

    -- a station that v drains lets it come to no more than was put
    pub drains_no_more : (station : ℕ) → station < station_count p.relays → drainer (links_of s) p station ≡ v → now ≤ counts (filler (links_of s) p station) + start_count p station
    drains_no_more station h is = subst (λ (e : Edge). e.to ≡ v → now ≤ counts e.from + e.tokens) (forth_at s p station h) (least_into_edge g.edges counts v (cap v) (station + station) (omega (arith, edges_long s p))) is

    -- one that it fills, to no more than was taken and has room
    pub fills_no_more : (station : ℕ) → station < station_count p.relays → filler (links_of s) p station ≡ v → now ≤ counts (drainer (links_of s) p station) + (capacity p station - start_count p station)
    fills_no_more station h is = subst (λ (e : Edge). e.to ≡ v → now ≤ counts e.from + e.tokens) (back_at s p station h) (least_into_edge g.edges counts v (cap v) (suc (station + station)) (omega (arith, edges_long s p))) is

    -- an actor that may not fire has no more turns
    fires_no_more : MayNotFire (links_of s) p rows counts v → now ≤ counts v
    fires_no_more (inl done) = omega (arith, least_into_most g.edges counts v (cap v))
    fires_no_more (inr (inl finds)) =
        let same : counts (drainer (links_of s) p finds.station) ≡ counts v = ap counts finds.drains in
        let most = (cap_about s rows v).0 in
        omega (arith, finds.void, drains_no_more finds.station finds.there finds.drains, start_small s p well fits finds.station, least_into_most g.edges counts v (cap v))
    fires_no_more (inr (inr finds)) =
        let same : counts (filler (links_of s) p finds.station) ≡ counts v = ap counts finds.fills in
        let room = (cap_range s p well fits finds.station finds.there).0 in
        omega (arith, finds.stop, fills_no_more finds.station finds.there finds.fills, start_small s p well fits finds.station)

  module _ (held : Hold) (k : ℕ) where
    abbrev fired : Counts
    fired = fired_in (links_of s) p rows held k

    -- in a cycle in which it is not held, an actor comes to what the edges into it allow
    pub comes_to : (v : ℕ) → held k v ≡ false → fired_in (links_of s) p rows held (suc k) v ≡ least_into g.edges fired v (cap v)
    unfolding firings
    comes_to v free = ap (λ (b : Bool). cond b (fired v) (least_into g.edges fired v (cap v))) free

    rests_held : (v : ℕ) → held k v ≡ true → fired_in (links_of s) p rows held (suc k) v ≡ fired v
    unfolding firings
    rests_held v is = ap (λ (b : Bool). cond b (fired v) (least_into g.edges fired v (cap v))) is

    pub fires : (v : ℕ) → v < actor_count (links_of s) p → held k v ≡ false → MayFire (links_of s) p rows fired v → fired_in (links_of s) p rows held (suc k) v ≡ fired v + 1
    fires v h free may =
        let most = rises_by_one g cap held (rateable s p well fits).paired k v (omega (arith, node_count s p)) in
        omega (arith, comes_to v free, fires_once_more fired v may)

    pub rests : (v : ℕ) → (held k v ≡ true) ⊎ MayNotFire (links_of s) p rows fired v → fired_in (links_of s) p rows held (suc k) v ≡ fired v
    rests v (inl is) = rests_held v is
    rests v (inr may_not) = by_hold (held k v) refl
      where
        by_hold : (b : Bool) → held k v ≡ b → fired_in (links_of s) p rows held (suc k) v ≡ fired v
        by_hold true is = rests_held v is
        by_hold false is = omega (arith, comes_to v is, fires_no_more fired v may_not, rises g cap held k v)

    pub holds_few : (station : ℕ) → station < station_count p.relays → HoldsFew (links_of s) p rows fired station
    holds_few station h =
        let along : fired (drainer (links_of s) p station) ≤ fired (filler (links_of s) p station) + start_count p station = subst (λ (e : Edge). fired e.to ≤ fired e.from + e.tokens) (forth_at s p station h) (allows g cap held k (station + station) (omega (arith, edges_long s p))) in
        let backward : fired (filler (links_of s) p station) ≤ fired (drainer (links_of s) p station) + (capacity p station - start_count p station) = subst (λ (e : Edge). fired e.to ≤ fired e.from + e.tokens) (back_at s p station h) (allows g cap held k (suc (station + station)) (omega (arith, edges_long s p))) in
        let small = start_small s p well fits station in
        let room = (cap_range s p well fits station h).0 in
        let drained : fired (drainer (links_of s) p station) ≤ cap (drainer (links_of s) p station) = firings_cap g cap held k _ in
        let filled : fired (filler (links_of s) p station) ≤ cap (filler (links_of s) p station) = firings_cap g cap held k _ in
        let most = (cap_about s rows (drainer (links_of s) p station)).0 in
        record { ordered = omega arith; within = omega arith; few = omega (arith, start_and_cap s p well fits rows station h) }
