-- Walks of graphs with the same edges but for their tokens.
use Rattle.std.proofs.Common.{◌≡◌, ℕ, suc, ◌≤◌, List, [], ◌∷◌, refl, sym, ◌∙◌, subst, arith}
use Rattle.std.specs.List.{All}
use Rattle.lid_graph.specs.declared.graph.Graph.{Graph}
use Rattle.lid_graph.specs.Walks.{edge_at, walk_start, walk_tokens, IsWalk, IsJoined}
use Rattle.lid_graph.specs.Ratios.{IsClosedWalkNear}
use Rattle.lid_size_laws.specs.Capacities.{IsForward}
use Rattle.lid_size_laws.specs.Differing.{AreAlike, HasNoMore, DifferInCapacities}

pub alike_back : (g h : Graph) → AreAlike g h → AreAlike h g
alike_back g h like = record {
  nodes = sym like.nodes;
  count = sym like.count;
  from = λ k l. sym (like.from k (let c = like.count in omega arith));
  to = λ k l. sym (like.to k (let c = like.count in omega arith));
}

module _ (g h : Graph) (like : AreAlike g h) where
  pub walk_alike : (ks : List ℕ) (u v : ℕ) → IsWalk g u ks v → IsWalk h u ks v
  walk_alike [] u v walk = walk
  walk_alike (k ∷ ks) u v walk = (
    (let w = walk.0 in let c = like.count in omega arith),
    sym (like.from k walk.0) ∙ walk.1,
    subst (λ (n : ℕ). IsWalk h n ks v) (like.to k walk.0) (walk_alike ks (edge_at g k).to v walk.2),
  )

  pub joined_alike : (u v : ℕ) → IsJoined g u v → IsJoined h u v
  joined_alike u v joined = (joined.0, walk_alike joined.0 u v joined.1)

  start_alike : (ks : List ℕ) (u v : ℕ) → IsWalk g u ks v → walk_start g ks ≡ walk_start h ks
  start_alike [] u v walk = refl
  start_alike (k ∷ ks) u v walk = like.from k walk.0

  pub closed_alike : (v : ℕ) (ks : List ℕ) → IsClosedWalkNear g v ks → IsClosedWalkNear h v ks
  closed_alike v ks near =
      let same = start_alike ks (walk_start g ks) (walk_start g ks) (near.0).closed in
      let walk = walk_alike ks (walk_start g ks) (walk_start g ks) (near.0).closed in
      (record { some = (near.0).some; closed = subst (λ (n : ℕ). IsWalk h n ks n) same walk }, subst (IsJoined h v) same (joined_alike v (walk_start g ks) near.1))

pub fewer_tokens : (g h : Graph) → HasNoMore g h → (ks : List ℕ) (u v : ℕ) → IsWalk g u ks v → walk_tokens g ks ≤ walk_tokens h ks
fewer_tokens g h less [] u v walk = omega arith
fewer_tokens g h less (k ∷ ks) u v walk = let here = less.tokens k walk.0 in let later = fewer_tokens g h less ks (edge_at g k).to v walk.2 in omega arith

pub forward_tokens : (n : ℕ) (g h : Graph) → DifferInCapacities n g h → (ks : List ℕ) (u v : ℕ) → IsWalk g u ks v → All (IsForward n) ks → walk_tokens g ks ≡ walk_tokens h ks
forward_tokens n g h differ [] u v walk forth = refl
forward_tokens n g h differ (k ∷ ks) u v walk forth =
    let here = differ.forward k walk.0 (forth 0 0 (omega arith)) in
    let later = forward_tokens n g h differ ks (edge_at g k).to v walk.2 (λ i d l. forth (suc i) d (omega arith)) in
    omega arith
