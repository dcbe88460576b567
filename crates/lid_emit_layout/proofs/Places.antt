-- Stations where they stand, by the edges of a marking.
use Rattle.std.proofs.Common.{◌≡◌, ℕ, ◌+◌, ◌<◌, List, ◌∷◌, [], ◌++◌, sym, ◌∙◌, ap}
use Rattle.lid_graph.specs.declared.graph.Edge.{Edge}
use Rattle.lid_graph.specs.declared.graph.Graph.{Graph}
use Rattle.lid_graph.specs.Walks.{edge_at}
use Rattle.lid_system.specs.declared.System.{System}
use Rattle.lid_stations.specs.declared.placement.Placement.{Placement}
use Rattle.lid_stations.specs.Placements.{links_of, station_count}
use Rattle.lid_stations.specs.Markings.{forth, marking}
use Rattle.lid_stations.specs.Laws.{StandsAt}
use Rattle.lid_stations.proofs.Edges.{forth_at}
use Rattle.lid_emit_layout.specs.declared.sites.Site.{Site}
use Rattle.lid_emit_layout.specs.Sites.{IsSite, AreSites}
use Rattle.std.proofs.lemmas.List.{length_push}
use Rattle.lid_base.proofs.Places.{each_push}

-- a station, by the edge along it
pub site_there : (s : System) (p : Placement) (g : Graph) (station channel place : ℕ) (along : Edge)
    → g ≡ marking (links_of s) p → station < station_count p.relays → StandsAt p.relays station channel place → along ≡ edge_at g (station + station)
    → IsSite s p (record { station = station; channel = channel; place = place; filler = along.from; drainer = along.to })
site_there s p g station channel place along is there stands at =
    let forward : along ≡ forth (links_of s) p station = at ∙ ap (λ (h : Graph). edge_at h (station + station)) is ∙ forth_at s p station there in
    record {
      there = there;
      stands = stands;
      filled = sym (ap (λ (e : Edge). e.from) forward);
      drained = sym (ap (λ (e : Edge). e.to) forward);
    }

-- one station more
pub next_site : (s : System) (p : Placement) (n : ℕ) (sites : List Site) (site : Site) → AreSites s p n sites → site.station ≡ n → IsSite s p site → AreSites s p (n + 1) (sites ++ site ∷ [])
next_site s p n sites site are number is = record {
  many = length_push sites site ∙ ap (λ (m : ℕ). m + 1) are.many;
  each = each_push (λ i x. (x.station ≡ i) × IsSite s p x) sites site are.each (number ∙ sym are.many, is);
}
