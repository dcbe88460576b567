-- Walks that meet no transition twice.
use Rattle.std.specs.Prelude.{◌≡◌, ℕ, ◌<◌, List, length, slice_index}
use Rattle.lid_graph.specs.declared.graph.Graph.{Graph}
use Rattle.lid_graph.specs.Walks.{edge_at}

-- no two of the edges end at the same transition
abbrev pub MeetsOnce : Graph → List ℕ → Type 0
MeetsOnce g ks =
    (i j : ℕ)
    → i < length ks
    → j < length ks
    → (edge_at g (slice_index ks i)).to ≡ (edge_at g (slice_index ks j)).to
    → i ≡ j
