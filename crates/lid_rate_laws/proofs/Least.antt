-- For each transition the least that is joined to it.
use Rattle.std.proofs.Common.{ℕ, ◌<◌, ◌≤◌, ◌⊎◌, inl, inr, List, [], get_or, zero-add, refl, sym, ◌∙◌, ap, subst, arith}
use Rattle.std.proofs.lemmas.Bool.{cases_lt}
use Rattle.lid_base.specs.Each.{from_each}
use Rattle.lid_base.proofs.Each.{each_length, each_at}
use Rattle.lid_graph.specs.declared.graph.Graph.{Graph}
use Rattle.lid_graph.specs.Walks.{IsPaired, IsJoined, IsLeastJoined}
use Rattle.lid_graph_ratio_laws.proofs.Deciding.{joined_or_not}
use Rattle.lid_rate.specs.Rates.{AreLabels}
use Rattle.lid_rate_laws.proofs.Firsts.{first_of}

module _ (g : Graph) (paired : IsPaired g) where
  least_joined : (v : ℕ) → v < g.nodes → (u : ℕ) × IsLeastJoined g v u
  least_joined v below =
      let found = first_of (λ u. IsJoined g v u) (λ u. joined_or_not g paired v u below) v ([], refl) in
      (found.0, record { joined = found.1.here; least = found.1.first })

  abbrev label_by : (v : ℕ) → (v < g.nodes) ⊎ (g.nodes ≤ v) → ℕ
  label_by v (inl below) = (least_joined v below).0
  label_by v (inr past) = 0

  abbrev label : ℕ → ℕ
  label v = label_by v (cases_lt v g.nodes)

  label_is : (v : ℕ) (d : (v < g.nodes) ⊎ (g.nodes ≤ v)) → v < g.nodes → IsLeastJoined g v (label_by v d)
  label_is v (inl below) h = (least_joined v below).1
  label_is v (inr past) h = absurd (omega arith)

  pub labels : List ℕ
  labels = from_each label 0 g.nodes

  pub are_labels : AreLabels g labels
  unfolding labels
  are_labels = record { count = each_length label 0 g.nodes; labels = each }
    where
      each : (v : ℕ) → v < g.nodes → IsLeastJoined g v (get_or labels v 0)
      each v h = subst (IsLeastJoined g v) (sym (each_at label 0 g.nodes v 0 h ∙ ap label (zero-add v))) (label_is v (cases_lt v g.nodes) h)
