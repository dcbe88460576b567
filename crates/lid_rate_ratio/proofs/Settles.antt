-- Rounds of relaxations: they reach longer walks each time, and end.
use Rattle.std.proofs.Common.{◌≡◌, ℕ, ◌+◌, ◌*◌, ◌^◌, ◌<◌, ◌≤◌, ◌⊎◌, inl, inr, List, [], ◌∷◌, length, get_or, replicate, Option, Some, None, refl, sym, ◌∙◌, ap, subst, arith}
use Rattle.std.specs.List.{Contains}
use Rattle.std.proofs.lemmas.Bool.{cases_lt}
use Rattle.std.proofs.lemmas.List.{get_or-replicate, get_or_past, length-replicate, get_or_default}
use Rattle.std.proofs.Math.Nat.{mul-le-mul_right}
use Rattle.lid_graph.specs.declared.graph.Graph.{Graph}
use Rattle.lid_graph.specs.Walks.{edge_at, walk_tokens}
use Rattle.lid_rate_ratio.specs.WalksBack.{IsWalkBack, IsPredecessorWalk, predecessor_of}
use Rattle.lid_rate_ratio.specs.Relaxation.{AreEdges, ArePotentials, AreAtMost, IsRound, ReachesWalks}
use Rattle.lid_rate_ratio.specs.Cycles.{ArePredecessors, LeadsOut, ClosesUp}
use Rattle.lid_rate_ratio.specs.BellmanFord.{AreLags, IsLower, IsSettling}

pub all_replicate : {X : Type 0} (n v : ℕ) (x : X) → get_or (replicate n x) v x ≡ x
all_replicate n v x = by_order (cases_lt v n)
  where
    by_order : (v < n) ⊎ (n ≤ v) → get_or (replicate n x) v x ≡ x
    by_order (inl h) = get_or-replicate n v x x h
    by_order (inr h) = get_or_past (replicate n x) v x (let l = length-replicate n x in omega arith)

pub contains_within : (g : Graph) (es : List ℕ) (k : ℕ) → AreEdges g es → Contains es k → k < length g.edges
contains_within g es k edges at = subst (λ (n : ℕ). n < length g.edges) (get_or_default es at.0 0 k at.1 ∙ at.2) (edges.within at.0 at.1)

module _ (g : Graph) (es : List ℕ) (p q : ℕ) (edges : AreEdges g es) where
  start_raised : (values : List ℕ) (last : List (Option ℕ)) → values ≡ replicate g.nodes 0 → last ≡ replicate g.nodes None → ArePotentials g es p q values last
  start_raised values last values_is last_is = record {
    value_count = ap length values_is ∙ length-replicate g.nodes 0;
    predecessor_count = ap length last_is ∙ length-replicate g.nodes None;
    edges = λ v k e. absurd (no_last v k e);
    rising = λ v ks chain some. absurd (no_chain v ks v chain some);
    fresh = λ v e. zero_at v;
    attained = λ v h. (v, [], refl, (let z = zero_at v in omega arith));
  }
    where
      zero_at : (v : ℕ) → get_or values v 0 ≡ 0
      zero_at v = ap (λ (l : List ℕ). get_or l v 0) values_is ∙ all_replicate g.nodes v 0

      no_last : (v k : ℕ) → predecessor_of last v ≡ Some k → ⊥
      no_last v k e = let none : get_or last v None ≡ None = ap (λ (l : List (Option ℕ)). get_or l v None) last_is ∙ all_replicate g.nodes v None in cc

      no_chain : (v : ℕ) (ks : List ℕ) (u : ℕ) → IsPredecessorWalk g last v ks u → 0 < length ks → ⊥
      no_chain v [] u chain some = omega arith
      no_chain v (k ∷ ks) u chain some = no_last v k chain.0

  pub start_settling : (values : List ℕ) (last : List (Option ℕ)) → values ≡ replicate g.nodes 0 → last ≡ replicate g.nodes None → IsSettling g es p q 0 values last
  start_settling values last values_is last_is = record {
    raised = start_raised values last values_is last_is;
    reaches = λ v u ks chain short. reach v u ks short;
    small = λ v. (let z : get_or values v 0 ≡ 0 = ap (λ (l : List ℕ). get_or l v 0) values_is ∙ all_replicate g.nodes v 0 in omega arith);
    early = omega arith;
  }
    where
      reach : (v u : ℕ) (ks : List ℕ) → length ks ≤ 0 → p * length ks ≤ get_or values v 0 + q * walk_tokens g ks
      reach v u ks short = let none : length ks ≡ 0 = omega arith in let z : p * length ks ≡ p * 0 = ap (λ (n : ℕ). p * n) none in omega arith

  -- a round reaches chains that are longer by one
  pub reaches_on : (n : ℕ) (values later : List ℕ) → ReachesWalks g es p q n values → IsRound g es p q (length es) values later → ReachesWalks g es p q (n + 1) later
  reaches_on n values later reaches over v u [] chain short = omega arith
  reaches_on n values later reaches over v u (k ∷ ks) chain short =
      let at = chain.0 in
      let key : get_or es at.0 0 ≡ k = get_or_default es at.0 0 k at.1 ∙ at.2 in
      let met : get_or values (edge_at g k).from 0 + p ≤ get_or later (edge_at g k).to 0 + q * (edge_at g k).tokens = subst (λ (l : ℕ). get_or values (edge_at g l).from 0 + p ≤ get_or later (edge_at g l).to 0 + q * (edge_at g l).tokens) key (over.met at.0 at.1) in
      let same : get_or later (edge_at g k).to 0 ≡ get_or later v 0 = ap (λ (l : ℕ). get_or later l 0) chain.1 in
      let before : p * length ks ≤ get_or values (edge_at g k).from 0 + q * walk_tokens g ks = reaches (edge_at g k).from u ks chain.2 (omega arith) in
      omega arith

  pub as_lasts : (values : List ℕ) (last : List (Option ℕ)) → ArePotentials g es p q values last → ArePredecessors g last
  as_lasts values last raised = record {
    predecessor_count = raised.predecessor_count;
    within = λ v k e. contains_within g es k edges ((raised.edges v k e).listed);
    ends = λ v k e. (raised.edges v k e).ends;
    from = edges.from;
  }

  module _ (values : List ℕ) (last : List (Option ℕ)) (raised : ArePotentials g es p q values last) where
    to_chain : (ks : List ℕ) (v u : ℕ) → IsPredecessorWalk g last v ks u → IsWalkBack g es v ks u
    to_chain [] v u chain = chain
    to_chain (k ∷ ks) v u chain = ((raised.edges v k chain.0).listed, (raised.edges v k chain.0).ends, to_chain ks (edge_at g k).from u chain.1)

    slack_along : (ks : List ℕ) (v u : ℕ) → IsPredecessorWalk g last v ks u → get_or values v 0 + q * walk_tokens g ks ≤ get_or values u 0 + p * length ks
    slack_along [] v u chain = let same : get_or values v 0 ≡ get_or values u 0 = ap (λ (n : ℕ). get_or values n 0) chain in omega arith
    slack_along (k ∷ ks) v u chain = let here = (raised.edges v k chain.0).slack in let rest = slack_along ks (edge_at g k).from u chain.1 in omega arith

    pub lower : (walk : List ℕ) → ClosesUp g last walk → IsLower g es p q walk
    lower walk closes = record {
      cycle =
          record {
            at = closes.at;
            chain = closes.chain;
            chained = to_chain closes.chain closes.at closes.at closes.chained;
            some = closes.some;
            short = closes.short;
            once = closes.once;
            walk_is = closes.walk_is;
          };
      lower = raised.rising closes.at closes.chain closes.chained closes.some;
    }

    -- a chain that leads out from a transition whose value has grown is longer than the chains that
    -- were reached before
    pub leads_far : (n steps v : ℕ) (before : List ℕ) → ReachesWalks g es p q n before → get_or before v 0 < get_or values v 0 → LeadsOut g last v steps → n < steps
    leads_far n steps v before reaches grown out = by_order (cases_lt n steps)
      where
        by_order : (n < steps) ⊎ (steps ≤ n) → n < steps
        by_order (inl h) = h
        by_order (inr h) =
            let zero_out = raised.fresh out.out out.none in
            let slack = slack_along out.chain v out.out out.chained in
            let long : length out.chain ≡ steps = out.long in
            let reached = reaches v out.out out.chain (to_chain out.chain v out.out out.chained) (omega arith) in
            absurd (omega arith)

  pub settling_on : (n steps v : ℕ) (before : List ℕ) (old_last : List (Option ℕ)) (values : List ℕ) (last : List (Option ℕ)) → IsSettling g es p q n before old_last → ArePotentials g es p q values last → IsRound g es p q (length es) before values → get_or before v 0 < get_or values v 0 → LeadsOut g last v steps → IsSettling g es p q (n + 1) values last
  settling_on n steps v before old_last values last settling raised over grown out =
      let far = leads_far values last raised n steps v before settling.reaches grown out in
      let short = out.short in
      record {
        raised = raised;
        reaches = reaches_on n before values settling.reaches over;
        small = λ w. (let most = over.bounded (p * length es * n) settling.small w in omega arith);
        early = omega arith;
      }

  pub early_on : (n steps v : ℕ) (before : List ℕ) (old_last : List (Option ℕ)) (values : List ℕ) (last : List (Option ℕ)) → IsSettling g es p q n before old_last → ArePotentials g es p q values last → get_or before v 0 < get_or values v 0 → LeadsOut g last v steps → n < g.nodes
  early_on n steps v before old_last values last settling raised grown out =
      let far = leads_far values last raised n steps v before settling.reaches grown out in
      let short = out.short in
      omega arith

  pub few_edges : p ≤ 2 ^ 22 → length es ≤ 2 ^ 19 → p * length es ≤ 2 ^ 41
  few_edges small few =
      let a : p * length es ≤ 2 ^ 22 * length es = mul-le-mul_right (length es) small in
      omega arith

  pub small_values : (n : ℕ) (values : List ℕ) → p ≤ 2 ^ 22 → length es ≤ 2 ^ 19 → g.nodes ≤ 2 ^ 18 → n ≤ g.nodes → AreAtMost values (p * length es * n) → AreAtMost values (2 ^ 59)
  small_values n values small few nodes early most v =
      let here = most v in
      let a : p * length es * n ≤ 2 ^ 41 * n = mul-le-mul_right n (few_edges small few) in
      omega arith

  pub lags : (n : ℕ) (before : List ℕ) (old_last : List (Option ℕ)) (values : List ℕ) (last : List (Option ℕ)) → p ≤ 2 ^ 22 → length es ≤ 2 ^ 19 → g.nodes ≤ 2 ^ 18 → IsSettling g es p q n before old_last → ArePotentials g es p q values last → IsRound g es p q (length es) before values → values ≡ before → AreLags g es p q values
  lags n before old_last values last small few nodes settling raised over same = record {
    count = raised.value_count;
    met = λ i h. subst (λ (l : List ℕ). get_or l (edge_at g (get_or es i 0)).from 0 + p ≤ get_or values (edge_at g (get_or es i 0)).to 0 + q * (edge_at g (get_or es i 0)).tokens) (sym same) (over.met i h);
    attained = raised.attained;
    small = λ v. (let low = small_values n before small few nodes settling.early settling.small v in let is = ap (λ (l : List ℕ). get_or l v 0) same in omega arith);
  }
