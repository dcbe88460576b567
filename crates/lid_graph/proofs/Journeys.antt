-- Walks joined end to end, and walks back.
use Rattle.std.proofs.Common.{ℕ, List, [], ◌∷◌, ◌++◌, sym, ◌∙◌}
use Rattle.lid_graph.specs.declared.graph.Graph.{Graph}
use Rattle.lid_graph.specs.Walks.{edge_at, IsPaired, IsWalk, IsJoined}

pub walk_append : (g : Graph) (ks ls : List ℕ) (u v w : ℕ) → IsWalk g u ks v → IsWalk g v ls w → IsWalk g u (ks ++ ls) w
walk_append g [] ls u v w a b = rw a b
walk_append g (k ∷ ks) ls u v w a b = (a.0, a.1, walk_append g ks ls (edge_at g k).to v w a.2 b)

pub joined_step : (g : Graph) (u v w : ℕ) → IsJoined g u v → IsJoined g v w → IsJoined g u w
joined_step g u v w a b = (a.0 ++ b.0, walk_append g a.0 b.0 u v w a.1 b.1)

-- in a paired graph a walk leads back
pub joined_back : (g : Graph) → IsPaired g → (ks : List ℕ) (u v : ℕ) → IsWalk g u ks v → IsJoined g v u
joined_back g paired [] u v walk = ([], sym walk)
joined_back g paired (k ∷ ks) u v walk =
    let back = (paired.ends k walk.0).back in
    let edge : IsWalk g (edge_at g k).to (back.0 ∷ []) u = (back.1, back.2, back.3 ∙ walk.1) in
    joined_step g v (edge_at g k).to u (joined_back g paired ks (edge_at g k).to v walk.2) (back.0 ∷ [], edge)
