-- Closed walks of a component that begin elsewhere: many rounds of one, with the way there and back.
use Rattle.std.proofs.Common.{◌≡◌, ℕ, zero, suc, ◌+◌, ◌*◌, ◌<◌, ◌≤◌, ◌⊎◌, inl, inr, List, ◌++◌, length, subst, arith, length-append}
use Rattle.std.proofs.lemmas.Bool.{cases_lt}
use Rattle.std.proofs.Math.Nat.{mul-le-mul_left}
use Rattle.lid_graph.specs.declared.graph.Graph.{Graph}
use Rattle.lid_graph.specs.Walks.{IsPaired, IsWalk, IsJoined, walk_start, walk_tokens}
use Rattle.lid_graph.specs.Ratios.{IsClosedWalkNear}
use Rattle.lid_graph.proofs.Journeys.{walk_append, joined_back}
use Rattle.lid_graph_laws.proofs.Walking.{tokens_append}

-- a walk, and another so many times
abbrev rounds : List ℕ → ℕ → List ℕ → List ℕ
rounds ks zero ls = ls
rounds ks (suc n) ls = ks ++ rounds ks n ls

rounds_lead : (g : Graph) (u v : ℕ) (ks ls : List ℕ) (n : ℕ) → IsWalk g u ks u → IsWalk g u ls v → IsWalk g u (rounds ks n ls) v
rounds_lead g u v ks ls zero walk last = last
rounds_lead g u v ks ls (suc n) walk last = walk_append g ks (rounds ks n ls) u u v walk (rounds_lead g u v ks ls n walk last)

rounds_long : (ks ls : List ℕ) (n : ℕ) → length (rounds ks n ls) ≡ n * length ks + length ls
rounds_long ks ls zero = omega arith
rounds_long ks ls (suc n) = omega (arith, length-append ks (rounds ks n ls), rounds_long ks ls n)

rounds_tokens : (g : Graph) (ks ls : List ℕ) (n : ℕ) → walk_tokens g (rounds ks n ls) ≡ n * walk_tokens g ks + walk_tokens g ls
rounds_tokens g ks ls zero = omega arith
rounds_tokens g ks ls (suc n) = omega (arith, tokens_append g ks (rounds ks n ls), rounds_tokens g ks ls n)

-- what rounds keep however many, one round keeps
one_round : (p q l t a b : ℕ) → ((n : ℕ) → p * (n * l + a) ≤ q * (n * t + b)) → p * l ≤ q * t
one_round p q l t a b keeps = by_order (cases_lt (q * t) (p * l))
  where
    by_order : (q * t < p * l) ⊎ (p * l ≤ q * t) → p * l ≤ q * t
    by_order (inr h) = h
    by_order (inl less) =
        let n = q * b + 1 in
        let all : p * ((q * b + 1) * l + a) ≤ q * ((q * b + 1) * t + b) = keeps (q * b + 1) in
        let more : (q * b + 1) * (q * t + 1) ≤ (q * b + 1) * (p * l) = mul-le-mul_left (q * b + 1) (omega arith) in
        absurd (omega arith)

-- where closed walks at v keep p/q, all of its component do
pub component_keeps : (g : Graph) (v p q : ℕ) → IsPaired g
    → ((ks : List ℕ) → IsWalk g v ks v → p * length ks ≤ q * walk_tokens g ks)
    → (ks : List ℕ) → IsClosedWalkNear g v ks → p * length ks ≤ q * walk_tokens g ks
component_keeps g v p q paired keeps ks near = by_ways near.1 (joined_back g paired near.1.0 v (walk_start g ks) near.1.1)
  where
    by_ways : IsJoined g v (walk_start g ks) → IsJoined g (walk_start g ks) v → p * length ks ≤ q * walk_tokens g ks
    by_ways there back = one_round p q (length ks) (walk_tokens g ks) (length there.0 + length back.0) (walk_tokens g there.0 + walk_tokens g back.0) around
      where
        around : (n : ℕ) → p * (n * length ks + (length there.0 + length back.0)) ≤ q * (n * walk_tokens g ks + (walk_tokens g there.0 + walk_tokens g back.0))
        around n =
            let round : IsWalk g v (there.0 ++ rounds ks n back.0) v = walk_append g there.0 (rounds ks n back.0) v (walk_start g ks) v there.1 (rounds_lead g (walk_start g ks) v ks back.0 n near.0.closed back.1) in
            let all : p * length (there.0 ++ rounds ks n back.0) ≤ q * walk_tokens g (there.0 ++ rounds ks n back.0) = keeps (there.0 ++ rounds ks n back.0) round in
            let long : length (there.0 ++ rounds ks n back.0) ≡ n * length ks + (length there.0 + length back.0) = omega (arith, length-append there.0 (rounds ks n back.0), rounds_long ks back.0 n) in
            let tokens : walk_tokens g (there.0 ++ rounds ks n back.0) ≡ n * walk_tokens g ks + (walk_tokens g there.0 + walk_tokens g back.0) = omega (arith, tokens_append g there.0 (rounds ks n back.0), rounds_tokens g ks back.0 n) in
            subst (λ (m : ℕ). p * m ≤ q * (n * walk_tokens g ks + (walk_tokens g there.0 + walk_tokens g back.0))) long
            (subst (λ (m : ℕ). p * length (there.0 ++ rounds ks n back.0) ≤ q * m) tokens all)
