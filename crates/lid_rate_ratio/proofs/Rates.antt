-- Closed walks of lower and lower ratio.
use Rattle.std.proofs.Common.{◌≡◌, ℕ, ◌*◌, ◌/◌, ◌<◌, ◌≤◌, List, [], ◌∷◌, length, refl, sym, ◌∙◌, ap, subst, arith}
use Rattle.std.specs.List.{All}
use Rattle.std.proofs.lemmas.List.{length-reverse}
use Rattle.std.proofs.lemmas.Nat.Gcd.{dvd_refl}
use Rattle.lid_graph.specs.declared.graph.Graph.{Graph}
use Rattle.lid_graph.specs.Walks.{edge_at, walk_tokens}
use Rattle.lid_rate_ratio.specs.Relaxation.{AreEdges}
use Rattle.lid_rate_ratio.specs.BellmanFord.{IsLower}
use Rattle.lid_rate_ratio.specs.CycleRatios.{IsLowest, IsRated, IsOneTokenLoop}
use Rattle.lid_rate_ratio.proofs.Backward.{tokens_reverse, walk_within}
use Rattle.lid_rate_ratio.proofs.Settles.{contains_within}
use Rattle.lid_rate_ratio.proofs.Ratios.{falls}

module _ (g : Graph) (es : List ℕ) (edges : AreEdges g es) where
  pub start_rated : (k : ℕ) (walk : List ℕ) → IsOneTokenLoop g es k → walk ≡ k ∷ [] → IsRated g es 1 1 walk
  start_rated k walk loop is = record {
    cycle =
        record {
          at = (edge_at g k).to;
          chain = k ∷ [];
          chained = (loop.listed, refl, loop.loops);
          some = omega arith;
          short = (let h = edges.to k (contains_within g es k edges loop.listed) in omega arith);
          once = λ i j hi hj same. omega arith;
          walk_is = is;
        };
    lowest = record { positive = omega arith; coprime = (dvd_refl 1, dvd_refl 1, λ d a b. a); same = (let t = loop.tokens in omega arith); least_p = (let t = loop.tokens in omega arith); least_q = omega arith };
    few = omega arith;
  }

  module _ (p q : ℕ) (walk : List ℕ) (lower : IsLower g es p q walk) where
    pub lower_long : length walk ≡ length lower.cycle.chain
    lower_long = ap length lower.cycle.walk_is ∙ length-reverse lower.cycle.chain

    pub lower_within : All (λ k. k < length g.edges) walk
    lower_within = subst (All (λ k. k < length g.edges)) (sym lower.cycle.walk_is) (walk_within g es edges lower.cycle.chain lower.cycle.at lower.cycle.at lower.cycle.chained)

    lower_tokens : walk_tokens g walk ≡ walk_tokens g lower.cycle.chain
    lower_tokens = ap (walk_tokens g) lower.cycle.walk_is ∙ tokens_reverse g lower.cycle.chain

    module _ (tokens long new_p new_q : ℕ) (tokens_is : tokens ≡ walk_tokens g walk) (long_is : long ≡ length walk) (most : tokens ≤ 16 * length walk) (lowest : IsLowest tokens long new_p new_q) where
      of_chain : IsLowest (walk_tokens g lower.cycle.chain) (length lower.cycle.chain) new_p new_q
      of_chain = subst (λ (n : ℕ). IsLowest n (length lower.cycle.chain) new_p new_q) (tokens_is ∙ lower_tokens) (subst (λ (n : ℕ). IsLowest tokens n new_p new_q) (long_is ∙ lower_long) lowest)

      pub rated_on : IsRated g es new_p new_q walk
      rated_on = record {
        cycle = lower.cycle;
        lowest = of_chain;
        few = (let a = lowest.least_p in let b = lower_long in omega arith);
      }

      pub falls_on : (old_walk : List ℕ) → IsRated g es p q old_walk → (g.nodes * g.nodes * new_p) / new_q < (g.nodes * g.nodes * p) / q
      falls_on old_walk rated =
          let within : q ≤ g.nodes = (let a = rated.lowest.least_q in let b = rated.cycle.short in omega arith) in
          falls g.nodes p q (walk_tokens g lower.cycle.chain) (length lower.cycle.chain) new_p new_q rated.lowest.positive within lower.cycle.short lower.cycle.some of_chain lower.lower
