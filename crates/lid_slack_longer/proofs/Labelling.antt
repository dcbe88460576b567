-- What labels and ways of the present marked graph say of the one with further relay stations.
use Rattle.std.proofs.Common.{◌≡◌, ℕ, zero, suc, ◌+◌, ◌-◌, ◌*◌, ◌<◌, ◌≤◌, inl, inr, Bool, true, cond, List, [], ◌∷◌, length, get_or, take, Option, refl, sym, ◌∙◌, ap, subst, arith}
use Rattle.std.specs.List.{All}
use Rattle.std.proofs.lemmas.Bool.{ne_eqb}
use Rattle.lid_graph.specs.declared.graph.Edge.{Edge}
use Rattle.lid_graph.specs.declared.graph.Graph.{Graph}
use Rattle.lid_graph.specs.Walks.{edge_at, IsWalk, IsClosedWalk, IsJoined, walk_tokens}
use Rattle.lid_graph.proofs.Journeys.{joined_step}
use Rattle.lid_system.specs.declared.System.{System}
use Rattle.lid_system.specs.Systems.{IsWellFormed}
use Rattle.lid_stations.specs.declared.placement.Placement.{Placement}
use Rattle.lid_stations.specs.Placements.{links_of, station_count, Fits}
use Rattle.lid_stations.specs.Stations.{Spot, channel_at, mover, fills, drains, filler, drainer, start_count}
use Rattle.lid_stations.specs.Markings.{forth, back, marking}
use Rattle.lid_stations.proofs.Spots.{spot_is, channel_there}
use Rattle.lid_stations.proofs.Edges.{edges_long, forth_at, back_at, self_at, by_edge, two_there}
use Rattle.lid_slack_longer.specs.Longer.{stations_through, longer_marking, producer}
use Rattle.lid_slack_longer.specs.Labels.{has_label, label_of, Allows, IsEdgeAllowed, edge_along, edge_back, IsElsewhere, AreKeepingLabels, IsWay}
use Rattle.lid_slack_longer.specs.Laws.{HasWalk, LabelsKeep, WaysClose}
use Rattle.lid_slack_longer.proofs.Reading.{stays}
use Rattle.lid_slack_longer.proofs.Renumbering.{last_station, last_below, through_is, shift, shift_node}
use Rattle.lid_slack_longer.proofs.Chains.{Runs, Base, producing, consuming, forth_tokens, back_tokens, enough_tokens, place, place_up, steps, walks}
use Rattle.lid_slack_longer.proofs.Labelled.{IsBaseAllowed, labelled_keeps}

module _ (s : System) (p : Placement) (c : ℕ) (well : IsWellFormed s) (fits : Fits s p) (there : c < length p.relays) where
  abbrev g : Graph
  g = marking (links_of s) p

  abbrev v : ℕ
  v = producer (links_of s) c

  abbrev last : ℕ
  last = last_station s p c well fits there

  abbrev on_base : ℕ → ℕ → ℕ → Type 0
  on_base = Base s p c well fits there

  abbrev IsBase : Edge → Type 0
  IsBase e = on_base e.from e.to e.tokens

  last_is : stations_through p.relays c - 1 ≡ last
  last_is = omega (arith, through_is s p c well fits there)

  -- an edge of the present marked graph that is none of the last station's is one of the base
  based : (k : ℕ) → k < length g.edges → IsElsewhere last k → IsBase (edge_at g k)
  based = by_edge s p (λ k. IsElsewhere last k → IsBase (edge_at g k))
      (λ station h else. subst IsBase (sym (forth_at s p station h)) (inl (station, h, (λ is. else.0 (omega arith)), inl (refl, refl, refl))))
      (λ station h else. subst IsBase (sym (back_at s p station h)) (inl (station, h, (λ is. else.1 (omega arith)), inr (refl, refl, refl))))
      (λ w h else. subst IsBase (sym (self_at s p w h)) (inr (h, refl, refl)))

  module _ (start x a b : ℕ) (labels : List (Option ℕ)) (are : AreKeepingLabels g last start x a b labels) where
    abbrev inside : ℕ → Type 0
    inside n = has_label labels n ≡ true

    -- an edge between these ends, with so many tokens
    met : (e : Edge) (m n t : ℕ) → IsEdgeAllowed labels a b e → e.from ≡ m → e.to ≡ n → e.tokens ≡ t → inside m → inside n × (label_of labels m + a ≤ label_of labels n + b * t)
    met e m n t allowed from to tokens at =
        let ends : has_label labels e.to ≡ true = sym allowed.stays ∙ (ap (has_label labels) from ∙ at) in
        let bound : label_of labels e.from + a * 1 ≤ label_of labels e.to + b * e.tokens = allowed.allows ends in
        let from_is : label_of labels e.from ≡ label_of labels m = ap (label_of labels) from in
        let to_is : label_of labels e.to ≡ label_of labels n = ap (label_of labels) to in
        let tokens_is : b * e.tokens ≡ b * t = ap (λ (r : ℕ). b * r) tokens in
        (sym (ap (has_label labels) to) ∙ ends, omega arith)

    base_met : (m n t : ℕ) → on_base m n t → inside m → inside n × (label_of labels m + a ≤ label_of labels n + b * t)
    base_met m n t (inl (station, h, other, inl along)) at =
        met (forth (links_of s) p station) m n t
        (subst (IsEdgeAllowed labels a b) (forth_at s p station h) (are.others (station + station) (omega (arith, edges_long s p)) ((λ is. other (omega arith)), (λ is. omega arith))))
        along.0 along.1 along.2 at
    base_met m n t (inl (station, h, other, inr along)) at =
        met (back (links_of s) p station) m n t
        (subst (IsEdgeAllowed labels a b) (back_at s p station h) (are.others (suc (station + station)) (omega (arith, edges_long s p)) ((λ is. omega arith), (λ is. other (omega arith)))))
        along.0 along.1 along.2 at
    base_met m n t (inr (h, same, one)) at =
        let le = are.at_most_one in
        let label_is : label_of labels m ≡ label_of labels n = ap (label_of labels) same in
        let tokens_is : b * t ≡ b * 1 = ap (λ (r : ℕ). b * r) one in
        (subst inside same at, omega arith)

    labelled : IsBaseAllowed a b x on_base (producing s p c well fits there) (consuming s p c well fits there) (forth_tokens s p c well fits there) (back_tokens s p c well fits there) inside (label_of labels)
    labelled =
        let two = two_there s p last (last_below s p c well fits there) in
        record {
          at_most_one = are.at_most_one;
          enough = enough_tokens s p c well fits there;
          base = base_met;
          filled = subst (λ (e : Edge). inside e.from) two.along are.chain.filled;
          drained = subst (λ (e : Edge). inside e.to) two.along are.chain.drained;
          along = subst (λ (e : Edge). Allows labels a b e.from e.to (x + 1) e.tokens) two.along are.chain.along;
          backward =
              subst (λ (f : Edge). Allows labels a b (consuming s p c well fits there) (producing s p c well fits there) (x + 1) (f.tokens + 2 * x)) two.backward
              (subst (λ (e : Edge). Allows labels a b e.to e.from (x + 1) ((edge_back g last).tokens + 2 * x)) two.along are.chain.backward);
        }

  -- with further relay stations
  module _ (x : ℕ) where
    abbrev more : Graph
    more = longer_marking (links_of s) p c x

    abbrev up : ℕ → ℕ
    up = shift s p c well fits there x

    producer_same : up v ≡ v
    producer_same = shift_node s p c well fits there x v (let comes = (channel_there s p well fits c there).comes in omega arith)

    producer_at : place s p c well fits there x v ≡ stays v
    producer_at = ap (place s p c well fits there x) (sym producer_same) ∙ place_up s p c well fits there x v

    edge_run : (m n t : ℕ) → on_base m n t → Runs s p c well fits there x m n 1 t
    edge_run m n t h = (walks s p c well fits there x).base m n t h

    -- a way of the present marked graph is one past the chain
    way_runs : (ks : List ℕ) (m n : ℕ) → IsWalk g m ks n → All (IsElsewhere last) ks → Runs s p c well fits there x m n (length ks) (walk_tokens g ks)
    way_runs [] m n walk else = subst (λ (w : ℕ). Runs s p c well fits there x m w 0 0) walk ((walks s p c well fits there x).nil m)
    way_runs (k ∷ ks) m n walk else =
        let first : Runs s p c well fits there x (edge_at g k).from (edge_at g k).to 1 (edge_at g k).tokens =
        edge_run (edge_at g k).from (edge_at g k).to (edge_at g k).tokens (based k walk.0 (else 0 0 (omega arith))) in
        let rest : Runs s p c well fits there x (edge_at g k).to n (length ks) (walk_tokens g ks) = way_runs ks (edge_at g k).to n walk.2 (λ i d h. else (suc i) d (omega arith)) in
        let one : 1 + length ks ≡ suc (length ks) = omega arith in
        subst (λ (w : ℕ). Runs s p c well fits there x w n (suc (length ks)) ((edge_at g k).tokens + walk_tokens g ks)) walk.1
        (subst (λ (r : ℕ). Runs s p c well fits there x (edge_at g k).from n r ((edge_at g k).tokens + walk_tokens g ks)) one
        ((walks s p c well fits there x).join (edge_at g k).from (edge_at g k).to n 1 (length ks) (edge_at g k).tokens (walk_tokens g ks) first rest))

    -- along the channel, from its producer to what fills its last station
    abbrev first_station : ℕ
    first_station = station_count (take c p.relays)

    filler_is : (i : ℕ) → i ≤ get_or p.relays c 0 → filler (links_of s) p (first_station + i) ≡ fills (links_of s) p c i
    filler_is i h = ap (λ (at : Spot). fills (links_of s) p at.channel at.place) (spot_is p.relays (first_station + i) c i there h refl)

    drainer_is : (i : ℕ) → i < get_or p.relays c 0 → drainer (links_of s) p (first_station + i) ≡ mover (links_of s) p c i
    drainer_is i h =
        ap (λ (at : Spot). drains (links_of s) p at.channel at.place) (spot_is p.relays (first_station + i) c i there (omega arith) refl)
        ∙ ap (λ (q : Bool). cond q (channel_at (links_of s) c).to (mover (links_of s) p c i)) (ne_eqb i (get_or p.relays c 0) (λ is. omega arith))

    reaches : (i : ℕ) → i ≤ get_or p.relays c 0 → IsJoined more (up v) (up (fills (links_of s) p c i))
    reaches zero h = ([], refl)
    reaches (suc i) h =
        let edge : on_base (fills (links_of s) p c i) (mover (links_of s) p c i) (start_count p (first_station + i)) =
        inl (first_station + i, omega (arith, last_below s p c well fits there), (λ is. omega arith), inl (filler_is i (omega arith), drainer_is i (omega arith), refl)) in
        let run = edge_run (fills (links_of s) p c i) (mover (links_of s) p c i) (start_count p (first_station + i)) edge in
        joined_step more (up v) (up (fills (links_of s) p c i)) (up (mover (links_of s) p c i)) (reaches i (omega arith)) (run.edges, run.leads)

    reaches_last : IsJoined more v (up (producing s p c well fits there))
    reaches_last =
        subst (λ (n : ℕ). IsJoined more n (up (producing s p c well fits there))) producer_same
        (subst (λ (n : ℕ). IsJoined more (up v) (up n)) (sym (filler_is (get_or p.relays c 0) (omega arith))) (reaches (get_or p.relays c 0) (omega arith)))

    closed_from : (l t : ℕ) → Runs s p c well fits there x (producing s p c well fits there) (producing s p c well fits there) (suc l) t → HasWalk s p c x (suc l) t
    closed_from l t run = by_edges run.edges run.leads run.long run.tokens
      where
        by_edges : (ks : List ℕ) → IsWalk more (up (producing s p c well fits there)) ks (up (producing s p c well fits there)) → length ks ≡ suc l → walk_tokens more ks ≡ t → HasWalk s p c x (suc l) t
        by_edges [] walk long tokens = absurd (omega arith)
        by_edges (k ∷ ks) walk long tokens =
            let closed : IsClosedWalk more (k ∷ ks) = record { some = omega arith; closed = subst (λ (n : ℕ). IsWalk more n (k ∷ ks) n) (sym walk.1) walk } in
            record { walk = k ∷ ks; near = (closed, subst (λ (n : ℕ). IsJoined more v n) (sym walk.1) reaches_last); long = long; holds = tokens }

    closes : (way : List ℕ) → IsWay g last way → HasWalk s p c x (x + 1 + length way) ((edge_along g last).tokens + walk_tokens g way)
    closes way is =
        let two = two_there s p last (last_below s p c well fits there) in
        let leads : IsWalk g (consuming s p c well fits there) way (producing s p c well fits there) = subst (λ (e : Edge). IsWalk g e.to way e.from) two.along is.leads in
        let run = (walks s p c well fits there x).join (producing s p c well fits there) (consuming s p c well fits there) (producing s p c well fits there) (x + 1) (length way) (forth_tokens s p c well fits there) (walk_tokens g way)
        ((walks s p c well fits there x).along) (way_runs way (consuming s p c well fits there) (producing s p c well fits there) leads is.elsewhere) in
        let long : suc (x + length way) ≡ x + 1 + length way = omega arith in
        let tokens : forth_tokens s p c well fits there + walk_tokens g way ≡ (edge_along g last).tokens + walk_tokens g way = ap (λ (e : Edge). e.tokens + walk_tokens g way) (sym two.along) in
        subst (λ (n : ℕ). HasWalk s p c x n ((edge_along g last).tokens + walk_tokens g way)) long
        (subst (λ (n : ℕ). HasWalk s p c x (suc (x + length way)) n) tokens
        (closed_from (x + length way) (forth_tokens s p c well fits there + walk_tokens g way)
        (subst (λ (n : ℕ). Runs s p c well fits there x (producing s p c well fits there) (producing s p c well fits there) n (forth_tokens s p c well fits there + walk_tokens g way)) (sym long) run)))

pub labels_keep : LabelsKeep
labels_keep s p c x a b labels well fits below some are =
    let there : c < length p.relays = omega (arith, fits.counts) in
    let here : AreKeepingLabels (marking (links_of s) p) (last_station s p c well fits there) (producer (links_of s) c) x a b labels =
    subst (λ (n : ℕ). AreKeepingLabels (marking (links_of s) p) n (producer (links_of s) c) x a b labels) (last_is s p c well fits there) are in
    labelled_keeps a b x (Base s p c well fits there) (producing s p c well fits there) (consuming s p c well fits there) (forth_tokens s p c well fits there) (back_tokens s p c well fits there)
    (λ n. has_label labels n ≡ true) (label_of labels) (labelled s p c well fits there (producer (links_of s) c) x a b labels here)
    (longer_marking (links_of s) p c x) (place s p c well fits there x) (steps s p c well fits there x some)
    (producer (links_of s) c) (producer (links_of s) c) (producer_at s p c well fits there x) here.begins

pub ways_close : WaysClose
ways_close s p c x way well fits below is =
    let there : c < length p.relays = omega (arith, fits.counts) in
    let same = last_is s p c well fits there in
    let here : IsWay (marking (links_of s) p) (last_station s p c well fits there) way = subst (λ (n : ℕ). IsWay (marking (links_of s) p) n way) same is in
    subst (λ (n : ℕ). HasWalk s p c x (x + 1 + length way) ((edge_along (marking (links_of s) p) n).tokens + walk_tokens (marking (links_of s) p) way)) (sym same)
    (closes s p c well fits there x way here)
