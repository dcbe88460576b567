-- Chains as walks.
use Rattle.std.proofs.Common.{◌≡◌, ℕ, zero, suc, ◌+◌, ◌-◌, ◌<◌, List, [], ◌∷◌, ◌++◌, length, get_or, reverse, refl, sym, ap, subst, arith}
use Rattle.std.specs.List.{Contains, All}
use Rattle.std.proofs.lemmas.List.{length-reverse, get_or-reverse, get_or_default}
use Rattle.std.proofs.lemmas.Grind.{reverse_onto}
use Rattle.lid_graph.specs.declared.graph.Graph.{Graph}
use Rattle.lid_graph.specs.Walks.{edge_at, walk_tokens, IsWalk}
use Rattle.lid_graph.proofs.Journeys.{walk_append}
use Rattle.lid_rate_ratio.specs.WalksBack.{IsWalkBack}
use Rattle.lid_rate_ratio.specs.Relaxation.{AreEdges}
use Rattle.lid_rate_ratio.proofs.Settles.{contains_within}

pub tokens_append : (g : Graph) (ks ls : List ℕ) → walk_tokens g (ks ++ ls) ≡ walk_tokens g ks + walk_tokens g ls
tokens_append g [] ls = omega arith
tokens_append g (k ∷ ks) ls = let rest = tokens_append g ks ls in omega arith

pub tokens_reverse : (g : Graph) (ks : List ℕ) → walk_tokens g (reverse ks) ≡ walk_tokens g ks
tokens_reverse g [] = refl
tokens_reverse g (k ∷ ks) =
    let split : walk_tokens g (reverse (k ∷ ks)) ≡ walk_tokens g (reverse ks ++ k ∷ []) = ap (walk_tokens g) (reverse_onto ks k []) in
    let parts : walk_tokens g (reverse ks ++ k ∷ []) ≡ walk_tokens g (reverse ks) + walk_tokens g (k ∷ []) = tokens_append g (reverse ks) (k ∷ []) in
    let rest = tokens_reverse g ks in
    omega arith

pub chain_walk : (g : Graph) (es : List ℕ) → AreEdges g es → (ks : List ℕ) (v u : ℕ) → IsWalkBack g es v ks u → IsWalk g u (reverse ks) v
chain_walk g es edges [] v u chain = sym chain
chain_walk g es edges (k ∷ ks) v u chain =
    let rest : IsWalk g u (reverse ks) (edge_at g k).from = chain_walk g es edges ks (edge_at g k).from u chain.2 in
    let last : IsWalk g (edge_at g k).from (k ∷ []) v = (contains_within g es k edges chain.0, refl, chain.1) in
    subst (λ (l : List ℕ). IsWalk g u l v) (sym (reverse_onto ks k [])) (walk_append g (reverse ks) (k ∷ []) u (edge_at g k).from v rest last)

chain_at : (g : Graph) (es ks : List ℕ) (v u i : ℕ) → IsWalkBack g es v ks u → i < length ks → Contains es (get_or ks i 0)
chain_at g es [] v u i chain h = absurd (omega arith)
chain_at g es (k ∷ ks) v u zero chain h = chain.0
chain_at g es (k ∷ ks) v u (suc i) chain h = chain_at g es ks (edge_at g k).from u i chain.2 (omega arith)

pub walk_at : (g : Graph) (es ks : List ℕ) (v u i : ℕ) → IsWalkBack g es v ks u → i < length (reverse ks) → Contains es (get_or (reverse ks) i 0)
walk_at g es ks v u i chain h =
    let long = length-reverse ks in
    let back : get_or (reverse ks) i 0 ≡ get_or ks (length ks - 1 - i) 0 = get_or-reverse ks i 0 (omega arith) in
    subst (Contains es) (sym back) (chain_at g es ks v u (length ks - 1 - i) chain (omega arith))

pub walk_within : (g : Graph) (es : List ℕ) → AreEdges g es → (ks : List ℕ) (v u : ℕ) → IsWalkBack g es v ks u → All (λ k. k < length g.edges) (reverse ks)
walk_within g es edges ks v u chain i d h = subst (λ (n : ℕ). n < length g.edges) (get_or_default (reverse ks) i 0 d h) (contains_within g es (get_or (reverse ks) i 0) edges (walk_at g es ks v u i chain h))
