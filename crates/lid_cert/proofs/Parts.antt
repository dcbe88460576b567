-- What the rules of a part say of its transitions and of walks.
use Rattle.std.proofs.Common.{◌≡◌, ℕ, ◌+◌, ◌*◌, ◌<◌, ◌≤◌, ◌==◌, true, List, [], ◌∷◌, length, get_or, Option, Some, None, is_some, refl, sym, ◌∙◌, ap, subst, arith}
use Rattle.std.proofs.lemmas.Bool.{eqb-true}
use Rattle.std.proofs.lemmas.List.Quantifiers.{position-Some}
use Rattle.lid_graph.specs.declared.graph.Graph.{Graph}
use Rattle.lid_graph.specs.Walks.{no_edge, edge_at, IsWalk, walk_start, walk_tokens}
use Rattle.lid_cert.specs.declared.cert.Part.{Part}
use Rattle.lid_cert.specs.Certificates.{place_in, has_node, lag_of, IsEdgeMet, IsPart, IsNodeMet}

-- where a transition of a part stands
pub record Placed (part : Part) (v : ℕ) : Type 0 where
  pub place : ℕ
  pub is : place_in part v ≡ Some place
  pub within : place < length part.nodes
  pub node : (d : ℕ) → get_or part.nodes place d ≡ v

pub placed_from : (part : Part) (v : ℕ) (o : Option ℕ) → place_in part v ≡ o → is_some o ≡ true → Placed part v
placed_from part v None e inside = cc
placed_from part v (Some i) e inside = record {
  place = i;
  is = e;
  within = (position-Some (λ n. n == v) part.nodes i 0 e).0;
  node = λ d. eqb-true (get_or part.nodes i d) v (position-Some (λ n. n == v) part.nodes i d e).1;
}

pub placed : (part : Part) (v : ℕ) → has_node part v ≡ true → Placed part v
placed part v inside = placed_from part v (place_in part v) refl inside

module _ (g : Graph) (part : Part) (meets : IsPart g part) where
  pub node_within : (v : ℕ) → has_node part v ≡ true → v < g.nodes
  node_within v inside =
      let at : Placed part v = placed part v inside in
      subst (λ (n : ℕ). n < g.nodes) (at.node 0) (meets.inside.within at.place 0 at.within)

  pub node_met : (v s : ℕ) → s ≡ walk_start g part.cycle → has_node part v ≡ true → IsNodeMet g part s v
  node_met v s is inside =
      let at : Placed part v = placed part v inside in
      subst (λ (n : ℕ). IsNodeMet g part s n) (at.node 0) (subst (λ (t : ℕ). IsNodeMet g part t (get_or part.nodes at.place 0)) (sym is) (meets.inside.nodes at.place 0 at.within))

  pub edge_met : (k : ℕ) → k < length g.edges → IsEdgeMet part (edge_at g k)
  edge_met k h = meets.edges k no_edge h

  -- a walk stays in the part
  pub stays_forth : (ks : List ℕ) (u v : ℕ) → IsWalk g u ks v → has_node part u ≡ true → has_node part v ≡ true
  stays_forth [] u v walk inside = subst (λ (n : ℕ). has_node part n ≡ true) walk inside
  stays_forth (k ∷ ks) u v walk inside =
      let from : has_node part (edge_at g k).from ≡ true = ap (has_node part) walk.1 ∙ inside in
      stays_forth ks (edge_at g k).to v walk.2 (sym (edge_met k walk.0).stays ∙ from)

  pub stays_back : (ks : List ℕ) (u v : ℕ) → IsWalk g u ks v → has_node part v ≡ true → has_node part u ≡ true
  stays_back [] u v walk inside = subst (λ (n : ℕ). has_node part n ≡ true) (sym walk) inside
  stays_back (k ∷ ks) u v walk inside =
      let to : has_node part (edge_at g k).to ≡ true = stays_back ks (edge_at g k).to v walk.2 inside in
      ap (has_node part) (sym walk.1) ∙ ((edge_met k walk.0).stays ∙ to)

  -- along a walk of the part the lag grows by at least p for each edge, less q for each token
  pub lag_along : (ks : List ℕ) (u v : ℕ) → IsWalk g u ks v → has_node part u ≡ true → lag_of part u + part.p * length ks ≤ lag_of part v + part.q * walk_tokens g ks
  lag_along [] u v walk inside = let same : lag_of part u ≡ lag_of part v = ap (lag_of part) walk in omega arith
  lag_along (k ∷ ks) u v walk inside =
      let met : IsEdgeMet part (edge_at g k) = edge_met k walk.0 in
      let same : lag_of part (edge_at g k).from ≡ lag_of part u = ap (lag_of part) walk.1 in
      let to : has_node part (edge_at g k).to ≡ true = sym met.stays ∙ (ap (has_node part) walk.1 ∙ inside) in
      let step : lag_of part (edge_at g k).from + part.p ≤ lag_of part (edge_at g k).to + part.q * (edge_at g k).tokens = met.lag to in
      let rest : lag_of part (edge_at g k).to + part.p * length ks ≤ lag_of part v + part.q * walk_tokens g ks = lag_along ks (edge_at g k).to v walk.2 to in
      omega arith
