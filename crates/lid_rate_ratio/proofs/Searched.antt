-- What the search by relaxations shows of the whole graph.
use Rattle.std.proofs.Common.{◌≡◌, ℕ, suc, ◌⊎◌, inl, inr, ◌+◌, ◌-◌, ◌*◌, ◌^◌, ◌<◌, ◌≤◌, List, [], ◌∷◌, length, get_or, reverse, sym, ◌∙◌, ap, subst, arith}
use Rattle.std.specs.List.{Contains}
use Rattle.std.proofs.Math.Nat.{mul-le-mul_left}
use Rattle.std.proofs.lemmas.Bool.{cases_lt}
use Rattle.std.proofs.lemmas.List.{length-reverse, get_or-reverse, get_or_default}
use Rattle.lid_graph.specs.declared.graph.Graph.{Graph}
use Rattle.lid_graph.specs.Walks.{edge_at, walk_start, walk_tokens, IsWalk, IsClosedWalk}
use Rattle.lid_rate_ratio.specs.WalksBack.{IsCycleOn}
use Rattle.lid_rate_ratio.specs.Once.{MeetsOnce}
use Rattle.lid_rate_ratio.specs.BellmanFord.{AreLags, IsLower}
use Rattle.lid_rate_ratio.specs.Bounds.{MeetRule, ShowsBound, IsLowerWalk}
use Rattle.lid_rate_ratio.specs.Relaxation.{AreEdges, IsMet, IsAttained}
use Rattle.lid_rate_ratio.specs.CycleRatios.{IsLowest, IsRate, IsOneTokenLoop}
use Rattle.lid_rate_ratio.specs.Components.{IsSmallGraph, IsLoop, IsCycle, IsAsked, AreLeastLags, HasRate}
use Rattle.lid_rate_ratio.specs.Numbers.{AreAllNumbers}
use Rattle.lid_rate_ratio.proofs.Backward.{tokens_reverse, chain_walk}

start_of : (g : Graph) (ks : List ℕ) (u v : ℕ) → IsWalk g u ks v → 0 < length ks → walk_start g ks ≡ u
start_of g [] u v walk some = absurd (omega arith)
start_of g (k ∷ ks) u v walk some = walk.1

once_back : (g : Graph) (ks : List ℕ) → MeetsOnce g ks → MeetsOnce g (reverse ks)
once_back g ks once i j hi hj same =
    let long = length-reverse ks in
    let at_i : get_or (reverse ks) i 0 ≡ get_or ks (length ks - 1 - i) 0 = get_or-reverse ks i 0 (omega arith) in
    let at_j : get_or (reverse ks) j 0 ≡ get_or ks (length ks - 1 - j) 0 = get_or-reverse ks j 0 (omega arith) in
    let both : length ks - 1 - i ≡ length ks - 1 - j = once (length ks - 1 - i) (length ks - 1 - j) (omega arith) (omega arith) (ap (λ (n : ℕ). (edge_at g n).to) (sym at_i) ∙ (same ∙ ap (λ (n : ℕ). (edge_at g n).to) at_j)) in
    omega arith

-- labels that meet the rule rise along a walk as it asks
along : (g : Graph) (p q : ℕ) (labels : List ℕ) → MeetRule g p q labels → (ks : List ℕ) (u v : ℕ) → IsWalk g u ks v → get_or labels u 0 + p * length ks ≤ get_or labels v 0 + q * walk_tokens g ks
along g p q labels rule [] u v walk = let same : get_or labels u 0 ≡ get_or labels v 0 = ap (λ (n : ℕ). get_or labels n 0) walk in omega arith
along g p q labels rule (k ∷ ks) u v walk =
    let here = rule.met k walk.0 in
    let same : get_or labels (edge_at g k).from 0 ≡ get_or labels u 0 = ap (λ (n : ℕ). get_or labels n 0) walk.1 in
    let later = along g p q labels rule ks (edge_at g k).to v walk.2 in
    omega arith

pub keeps : (g : Graph) (p q : ℕ) (labels : List ℕ) → MeetRule g p q labels → ShowsBound g p q labels
keeps g p q labels rule = record { rule = rule; walks = λ ks closed. (let all = along g p q labels rule ks (walk_start g ks) (walk_start g ks) closed.closed in omega arith) }

-- a walk of ratio p'/q' has a lower one than p/q where the products say so
pub lower_of : (g : Graph) (p q least_p least_q : ℕ) (walk : List ℕ) → IsCycle g least_p least_q walk → q * least_p < p * least_q → IsLowerWalk g p q walk
lower_of g p q least_p least_q walk cycle less = record {
  closed = cycle.closed;
  once = cycle.once;
  short = cycle.short;
  lower = by_order (cases_lt (q * walk_tokens g walk) (p * length walk));
}
  where
    by_order : (q * walk_tokens g walk < p * length walk) ⊎ (p * length walk ≤ q * walk_tokens g walk) → q * walk_tokens g walk < p * length walk
    by_order (inl h) = h
    by_order (inr h) =
        let same : least_q * walk_tokens g walk ≡ least_p * length walk = cycle.lowest.same in
        let some = cycle.closed.some in
        let scaled : least_q * (p * length walk) ≤ least_q * (q * walk_tokens g walk) = mul-le-mul_left least_q h in
        let by_same : q * (least_q * walk_tokens g walk) ≡ q * (least_p * length walk) = ap (λ (n : ℕ). q * n) same in
        let more : length walk * suc (q * least_p) ≤ length walk * (p * least_q) = mul-le-mul_left (length walk) less in
        absurd (omega arith)

module _ (g : Graph) (ok : IsSmallGraph g) (all : List ℕ) (numbers : AreAllNumbers (length g.edges) all) where
  pub are_edges : AreEdges g all
  are_edges = record {
    within = λ i h. (let is = numbers.each i (let l = numbers.long in omega arith) in let l = numbers.long in omega arith);
    from = ok.from;
    to = ok.to;
    tokens = ok.tokens;
  }

  pub listed : (k : ℕ) → k < length g.edges → Contains all k
  listed k h = let l = numbers.long in (k, omega arith, get_or_default all k k 0 (omega arith) ∙ numbers.each k h)

  pub few : length all ≤ 2 ^ 19
  few = let l = numbers.long in let e = ok.edges in omega arith

  pub one_token_loop : (k : ℕ) → IsLoop g k → IsOneTokenLoop g all k
  one_token_loop k loop = record { listed = listed k loop.within; loops = loop.loops; tokens = loop.token }

  module _ (walk : List ℕ) (cycle : IsCycleOn g all walk) where
    walk_long : length walk ≡ length cycle.chain
    walk_long = ap length cycle.walk_is ∙ length-reverse cycle.chain

    closed : IsWalk g cycle.at walk cycle.at
    closed = subst (λ (l : List ℕ). IsWalk g cycle.at l cycle.at) (sym cycle.walk_is) (chain_walk g all are_edges cycle.chain cycle.at cycle.at cycle.chained)

    walk_some : 0 < length walk
    walk_some = let l = walk_long in let s = cycle.some in omega arith

    starts : walk_start g walk ≡ cycle.at
    starts = start_of g walk cycle.at cycle.at closed walk_some

    tokens_same : walk_tokens g walk ≡ walk_tokens g cycle.chain
    tokens_same = ap (walk_tokens g) cycle.walk_is ∙ tokens_reverse g cycle.chain

    is_closed : IsClosedWalk g walk
    is_closed = record { some = walk_some; closed = subst (λ (n : ℕ). IsWalk g n walk n) (sym starts) closed }

    is_once : MeetsOnce g walk
    is_once = subst (MeetsOnce g) (sym cycle.walk_is) (once_back g cycle.chain cycle.once)

    is_short : length walk ≤ g.nodes
    is_short = let l = walk_long in let s = cycle.short in omega arith

  pub lower_walk : (p q : ℕ) (walk : List ℕ) → IsLower g all p q walk → IsLowerWalk g p q walk
  lower_walk p q walk lower = record {
    closed = is_closed walk lower.cycle;
    once = is_once walk lower.cycle;
    short = is_short walk lower.cycle;
    lower =
        (let less = lower.lower in
        let tokens : q * walk_tokens g walk ≡ q * walk_tokens g lower.cycle.chain = ap (λ (n : ℕ). q * n) (tokens_same walk lower.cycle) in
        let long : p * length walk ≡ p * length lower.cycle.chain = ap (λ (n : ℕ). p * n) (walk_long walk lower.cycle) in
        omega arith);
  }

  pub met_all : (p q : ℕ) (lags : List ℕ) → AreLags g all p q lags → (k : ℕ) → k < length g.edges → IsMet g p q lags lags k
  met_all p q lags are_lags k h = subst (IsMet g p q lags lags) (numbers.each k h) (are_lags.met k (let l = numbers.long in omega arith))

  pub lags_keep : (p q : ℕ) (lags : List ℕ) → AreLags g all p q lags → ShowsBound g p q lags
  lags_keep p q lags are_lags = keeps g p q lags (record {
    count = are_lags.count;
    small = λ i d h. (let low = are_lags.small i in let is = get_or_default lags i d 0 h in omega arith);
    met = met_all p q lags are_lags;
  })

  module _ (p q : ℕ) (walk lags : List ℕ) (rate : IsRate g all p q walk lags) where
    is_cycle : IsCycle g p q walk
    is_cycle = record {
      closed = is_closed walk rate.rated.cycle;
      once = is_once walk rate.rated.cycle;
      short = is_short walk rate.rated.cycle;
      lowest = subst (λ (n : ℕ). IsLowest n (length walk) p q) (sym (tokens_same walk rate.rated.cycle)) (subst (λ (n : ℕ). IsLowest (walk_tokens g rate.rated.cycle.chain) n p q) (sym (walk_long walk rate.rated.cycle)) rate.rated.lowest);
      few = (let l = walk_long walk rate.rated.cycle in let f = rate.rated.few in omega arith);
    }

    least_lags : AreLeastLags g p q lags
    least_lags = record {
      count = rate.are_lags.count;
      met = met_all p q lags rate.are_lags;
      asked = λ v h. asked v (rate.are_lags.attained v h);
      small = rate.are_lags.small;
    }
      where
        asked : (v : ℕ) → IsAttained g all p q lags v → IsAsked g p q lags v
        asked v way =
            let tokens : q * walk_tokens g (reverse way.1) ≡ q * walk_tokens g way.1 = ap (λ (n : ℕ). q * n) (tokens_reverse g way.1) in
            let long : p * length (reverse way.1) ≡ p * length way.1 = ap (λ (n : ℕ). p * n) (length-reverse way.1) in
            (way.0, reverse way.1, chain_walk g all are_edges way.1 v way.0 way.2, long ∙ (way.3 ∙ ap (λ (n : ℕ). get_or lags v 0 + n) (sym tokens)))

    pub has_rate : HasRate g p q walk lags
    has_rate = record { cycle = is_cycle; are_lags = least_lags }
