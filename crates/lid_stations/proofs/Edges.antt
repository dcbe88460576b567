-- The edges of a marking: what is pushed for a station, and each edge by its number.
use Rattle.std.proofs.Common.{◌≡◌, ℕ, suc, ◌+◌, ◌-◌, ◌*◌, ◌<◌, ◌≤◌, ◌⊎◌, inl, inr, List, [], ◌∷◌, ◌++◌, length, take, get_or, flat_map, refl, sym, ◌∙◌, ap, subst, arith}
use Rattle.std.proofs.lemmas.Bool.{cases_lt}
use Rattle.std.proofs.lemmas.List.{length-append, get_or_default, get_or_append_left, get_or-append-add}
use Rattle.lid_base.specs.Each.{from_each}
use Rattle.lid_graph.specs.declared.graph.Edge.{Edge}
use Rattle.lid_graph.specs.declared.graph.Graph.{Graph}
use Rattle.lid_graph.specs.Walks.{no_edge, edge_at}
use Rattle.lid_system.specs.declared.System.{System}
use Rattle.lid_stations.specs.declared.placement.Placement.{Placement}
use Rattle.lid_stations.specs.Placements.{links_of, station_count}
use Rattle.lid_stations.specs.Stations.{Spot, actor_count, fills, drains, starts, filler, drainer, start_count, capacity}
use Rattle.lid_stations.specs.Markings.{forth, back, station_edges, self_edge, marking}
use Rattle.lid_stations.specs.Laws.{HasTwoEdges}
use Rattle.lid_stations.proofs.Parts.{two_each, two_each_next, two_each_length, half_of}
use Rattle.lid_stations.proofs.Spots.{spot_is}
use Rattle.lid_base.proofs.Each.{each_length, each_at}

abbrev pub two_edges : ℕ → ℕ → ℕ → ℕ → List Edge
two_edges from to tokens capacity = record { from = from; to = to; tokens = tokens } ∷ record { from = to; to = from; tokens = capacity - tokens } ∷ []

module _ (s : System) (p : Placement) where
  -- the edges of the station at place i of channel c
  pub edges_there : (c i station from to tokens cap : ℕ) → c < length p.relays → i ≤ get_or p.relays c 0 → station ≡ station_count (take c p.relays) + i → from ≡ fills (links_of s) p c i → to ≡ drains (links_of s) p c i → tokens ≡ starts i → station < length p.caps → cap ≡ get_or p.caps station 0 → two_edges from to tokens cap ≡ station_edges (links_of s) p station
  edges_there c i station from to tokens cap below within number at_from at_to at_tokens in_caps at_cap =
      let spot = spot_is p.relays station c i below within number in
      ap (λ (n : ℕ). two_edges n to tokens cap) (at_from ∙ sym (ap (λ (spot : Spot). fills (links_of s) p spot.channel spot.place) spot))
      ∙ ap (λ (n : ℕ). two_edges (filler (links_of s) p station) n tokens cap) (at_to ∙ sym (ap (λ (spot : Spot). drains (links_of s) p spot.channel spot.place) spot))
      ∙ ap (λ (n : ℕ). two_edges (filler (links_of s) p station) (drainer (links_of s) p station) n cap) (at_tokens ∙ sym (ap (λ (spot : Spot). starts spot.place) spot))
      ∙ ap (λ (n : ℕ). two_edges (filler (links_of s) p station) (drainer (links_of s) p station) (start_count p station) n) (at_cap ∙ get_or_default p.caps station 0 2 in_caps)

  -- the graph that is made of all edges
  pub made : (nodes : ℕ) (none first es : List Edge) → nodes ≡ actor_count (links_of s) p → none ≡ [] → first ≡ none ++ flat_map (station_edges (links_of s) p) (from_each (λ station. station) 0 (station_count p.relays)) → es ≡ first ++ from_each self_edge 0 nodes → (let g : Graph = record { nodes = nodes; edges = es } in g) ≡ marking (links_of s) p
  unfolding marking
  made nodes none first es actors empty stations is =
      let all : es ≡ (marking (links_of s) p).edges =
      is
      ∙ ap (λ (xs : List Edge). xs ++ from_each self_edge 0 nodes) (stations ∙ ap (λ (xs : List Edge). xs ++ flat_map (station_edges (links_of s) p) (from_each (λ station. station) 0 (station_count p.relays))) empty)
      ∙ ap (λ (n : ℕ). flat_map (station_edges (links_of s) p) (from_each (λ station. station) 0 (station_count p.relays)) ++ from_each self_edge 0 n) actors in
      ap (λ (n : ℕ). let g : Graph = record { nodes = n; edges = es } in g) actors ∙ ap (λ (xs : List Edge). let g : Graph = record { nodes = actor_count (links_of s) p; edges = xs } in g) all

  abbrev count : ℕ
  count = station_count p.relays

  abbrev stations : List Edge
  stations = flat_map (station_edges (links_of s) p) (from_each (λ station. station) 0 count)

  pub node_count : (marking (links_of s) p).nodes ≡ actor_count (links_of s) p
  unfolding marking
  node_count = refl

  stations_long : length stations ≡ count + count
  stations_long = two_each_length (forth (links_of s) p) (back (links_of s) p) 0 count

  pub edges_long : length (marking (links_of s) p).edges ≡ (count + count) + actor_count (links_of s) p
  unfolding marking
  edges_long = omega (arith, length-append stations (from_each self_edge 0 (actor_count (links_of s) p)), stations_long, each_length self_edge 0 (actor_count (links_of s) p))

  pub forth_at : (station : ℕ) → station < count → edge_at (marking (links_of s) p) (station + station) ≡ forth (links_of s) p station
  unfolding marking
  forth_at station h =
      get_or_append_left stations (from_each self_edge 0 (actor_count (links_of s) p)) no_edge (station + station) (omega (arith, stations_long))
      ∙ two_each (forth (links_of s) p) (back (links_of s) p) 0 count station no_edge h
      ∙ (let e : 0 + station ≡ station = omega arith in ap (forth (links_of s) p) e)

  pub back_at : (station : ℕ) → station < count → edge_at (marking (links_of s) p) (suc (station + station)) ≡ back (links_of s) p station
  unfolding marking
  back_at station h =
      get_or_append_left stations (from_each self_edge 0 (actor_count (links_of s) p)) no_edge (suc (station + station)) (omega (arith, stations_long))
      ∙ two_each_next (forth (links_of s) p) (back (links_of s) p) 0 count station no_edge h
      ∙ (let e : 0 + station ≡ station = omega arith in ap (back (links_of s) p) e)

  pub self_at : (v : ℕ) → v < actor_count (links_of s) p → edge_at (marking (links_of s) p) ((count + count) + v) ≡ self_edge v
  unfolding marking
  self_at v h =
      (let e : (count + count) + v ≡ length stations + v = omega (arith, stations_long) in ap (λ (n : ℕ). get_or (stations ++ from_each self_edge 0 (actor_count (links_of s) p)) n no_edge) e)
      ∙ get_or-append-add stations (from_each self_edge 0 (actor_count (links_of s) p)) v no_edge
      ∙ each_at self_edge 0 (actor_count (links_of s) p) v no_edge h
      ∙ (let e : 0 + v ≡ v = omega arith in ap self_edge e)

  -- what holds of the edges of stations and of self edges holds of each edge
  pub by_edge : (P : ℕ → Type 0) → ((station : ℕ) → station < count → P (station + station)) → ((station : ℕ) → station < count → P (suc (station + station))) → ((v : ℕ) → v < actor_count (links_of s) p → P ((count + count) + v)) → (k : ℕ) → k < length (marking (links_of s) p).edges → P k
  by_edge P forths backs selfs k h = by_order (cases_lt k (count + count))
    where
      by_half : (half : ℕ) → k < count + count → (k ≡ half + half) ⊎ (k ≡ suc (half + half)) → P k
      by_half half less (inl e) = subst P (sym e) (forths half (omega arith))
      by_half half less (inr e) = subst P (sym e) (backs half (omega arith))

      by_order : (k < count + count) ⊎ (count + count ≤ k) → P k
      by_order (inl less) = let p = half_of k in by_half p.half less p.is
      by_order (inr more) =
          let e : (count + count) + (k - (count + count)) ≡ k = omega arith in
          subst P e (selfs (k - (count + count)) (omega (arith, edges_long)))

  pub two_there : (station : ℕ) → station < count → HasTwoEdges s p station
  two_there station h =
      let e : 2 * station ≡ station + station = omega arith in
      let f : 2 * station + 1 ≡ suc (station + station) = omega arith in
      record { along = ap (edge_at (marking (links_of s) p)) e ∙ forth_at station h; backward = ap (edge_at (marking (links_of s) p)) f ∙ back_at station h }

  pub selves_there : (v : ℕ) → v < actor_count (links_of s) p → edge_at (marking (links_of s) p) (2 * count + v) ≡ self_edge v
  selves_there v h = (let e : 2 * count + v ≡ (count + count) + v = omega arith in ap (edge_at (marking (links_of s) p)) e) ∙ self_at v h

  pub no_others : length (marking (links_of s) p).edges ≡ 2 * count + actor_count (links_of s) p
  no_others = omega (arith, edges_long)
