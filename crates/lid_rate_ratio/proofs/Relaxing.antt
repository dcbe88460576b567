-- An edge that is relaxed keeps what holds of potentials.
use Rattle.std.proofs.Common.{◌≡◌, ℕ, ◌+◌, ◌-◌, ◌*◌, ◌<◌, ◌≤◌, ◌≢◌, ◌⊎◌, inl, inr, Bool, true, false, ◌^◌, List, [], ◌∷◌, length, get_or, Option, Some, None, refl, sym, ◌∙◌, ap, subst, arith}
use Rattle.std.specs.Bool.{MatchBool}
use Rattle.std.specs.List.{Contains}
use Rattle.std.proofs.Math.Nat.{mul-le-mul_left}
use Rattle.std.proofs.lemmas.Bool.{cases_eq}
use Rattle.std.proofs.lemmas.Option.{same_Some}
use Rattle.std.proofs.lemmas.List.{get_or_default}
use Rattle.lid_graph.specs.declared.graph.Edge.{Edge}
use Rattle.lid_graph.specs.declared.graph.Graph.{Graph}
use Rattle.lid_graph.specs.Walks.{edge_at, walk_tokens}
use Rattle.lid_rate_ratio.specs.WalksBack.{IsPredecessorWalk}
use Rattle.lid_rate_ratio.proofs.Written.{IsWritten, is_written, IsStanding, standing}
use Rattle.lid_rate_ratio.specs.Relaxation.{Relaxes, StaysRelaxed, AreEdges, IsPredecessorEdge, ArePotentials, IsAttained, AreAtMost, IsRound, IsRelaxed}

module _ (g : Graph) (es : List ℕ) (p q k : ℕ) (values : List ℕ) (last : List (Option ℕ)) (before : ArePotentials g es p q values last) (listed : Contains es k) (to : (edge_at g k).to < g.nodes) (new_values : List ℕ) (new_last : List (Option ℕ)) (raises : Relaxes (edge_at g k) k p q values last new_values new_last) where
  value_is : IsWritten values new_values (edge_at g k).to (get_or values (edge_at g k).from 0 + p - q * (edge_at g k).tokens) 0
  value_is = is_written values new_values (edge_at g k).to (get_or values (edge_at g k).from 0 + p - q * (edge_at g k).tokens) 0 raises.raised (omega (arith, before.value_count))

  last_is : IsWritten last new_last (edge_at g k).to (Some k) None
  last_is = is_written last new_last (edge_at g k).to (Some k) None raises.stands (omega (arith, before.predecessor_count))

  pub grown : (v : ℕ) → get_or values v 0 ≤ get_or new_values v 0
  grown v = by_end (cases_eq v (edge_at g k).to)
    where
      by_end : (v ≡ (edge_at g k).to) ⊎ (v ≢ (edge_at g k).to) → get_or values v 0 ≤ get_or new_values v 0
      by_end (inl is) =
          let more = raises.more in
          let here = value_is.here in
          subst (λ (n : ℕ). get_or values n 0 ≤ get_or new_values n 0) (sym is) (omega arith)
      by_end (inr other) = let same = value_is.there v other in omega arith

  pub bounded : (most : ℕ) → AreAtMost values most → AreAtMost new_values (most + p)
  bounded most small v = by_end (cases_eq v (edge_at g k).to)
    where
      by_end : (v ≡ (edge_at g k).to) ⊎ (v ≢ (edge_at g k).to) → get_or new_values v 0 ≤ most + p
      by_end (inl is) =
          let here = value_is.here in
          let low = small (edge_at g k).from in
          subst (λ (n : ℕ). get_or new_values n 0 ≤ most + p) (sym is) (omega arith)
      by_end (inr other) = let same = value_is.there v other in let low = small v in omega arith

  -- along a chain the old values fall by no more than p for each edge less q for each token, and by less
  -- where the new edge is one of them
  telescope : (ks : List ℕ) (v u : ℕ) → IsPredecessorWalk g new_last v ks u → (get_or values v 0 + q * walk_tokens g ks < get_or values u 0 + p * length ks) ⊎ (IsPredecessorWalk g last v ks u × (get_or values v 0 + q * walk_tokens g ks ≤ get_or values u 0 + p * length ks))
  telescope [] v u chain = inr (chain, let same : get_or values v 0 ≡ get_or values u 0 = ap (λ (n : ℕ). get_or values n 0) chain in omega arith)
  telescope (l ∷ ks) v u chain = by_end (cases_eq v (edge_at g k).to) (telescope ks (edge_at g l).from u chain.1)
    where
      new_edge : v ≡ (edge_at g k).to → k ≡ l
      new_edge is = same_Some k l (sym last_is.here ∙ (ap (λ (n : ℕ). get_or new_last n None) (sym is) ∙ chain.0))

      strict : v ≡ (edge_at g k).to → get_or values v 0 + q * (edge_at g l).tokens < get_or values (edge_at g l).from 0 + p
      strict is = subst (λ (n : ℕ). get_or values v 0 + q * (edge_at g n).tokens < get_or values (edge_at g n).from 0 + p) (new_edge is) (subst (λ (n : ℕ). get_or values n 0 + q * (edge_at g k).tokens < get_or values (edge_at g k).from 0 + p) (sym is) raises.more)

      old_edge : v ≢ (edge_at g k).to → get_or last v None ≡ Some l
      old_edge other = sym (last_is.there v other) ∙ chain.0

      by_end : (v ≡ (edge_at g k).to) ⊎ (v ≢ (edge_at g k).to) → (get_or values (edge_at g l).from 0 + q * walk_tokens g ks < get_or values u 0 + p * length ks) ⊎ (IsPredecessorWalk g last (edge_at g l).from ks u × (get_or values (edge_at g l).from 0 + q * walk_tokens g ks ≤ get_or values u 0 + p * length ks)) → (get_or values v 0 + q * walk_tokens g (l ∷ ks) < get_or values u 0 + p * length (l ∷ ks)) ⊎ (IsPredecessorWalk g last v (l ∷ ks) u × (get_or values v 0 + q * walk_tokens g (l ∷ ks) ≤ get_or values u 0 + p * length (l ∷ ks)))
      by_end (inl is) (inl rest) = inl (let here = strict is in omega arith)
      by_end (inl is) (inr rest) = inl (let here = strict is in let later = rest.1 in omega arith)
      by_end (inr other) (inl rest) = inl (let here = (before.edges v l (old_edge other)).slack in omega arith)
      by_end (inr other) (inr rest) = inr ((old_edge other, rest.0), let here = (before.edges v l (old_edge other)).slack in let later = rest.1 in omega arith)

  rising : (v : ℕ) (ks : List ℕ) → IsPredecessorWalk g new_last v ks v → 0 < length ks → q * walk_tokens g ks < p * length ks
  rising v ks chain some = by_case (telescope ks v v chain)
    where
      by_case : (get_or values v 0 + q * walk_tokens g ks < get_or values v 0 + p * length ks) ⊎ (IsPredecessorWalk g last v ks v × (get_or values v 0 + q * walk_tokens g ks ≤ get_or values v 0 + p * length ks)) → q * walk_tokens g ks < p * length ks
      by_case (inl strict) = omega arith
      by_case (inr old) = before.rising v ks old.0 some

  new_edge : (v l : ℕ) → IsStanding last (edge_at g k).to k v l → IsPredecessorEdge g es p q new_values v l
  new_edge v l (inl is) =
      let more = raises.more in
      let here = value_is.here in
      let up = grown (edge_at g k).from in
      let low : get_or new_values (edge_at g k).to 0 + q * (edge_at g k).tokens ≤ get_or new_values (edge_at g k).from 0 + p = omega arith in
      let same : IsPredecessorEdge g es p q new_values (edge_at g k).to k = record { listed = listed; ends = refl; slack = low } in
      subst (λ (n : ℕ). IsPredecessorEdge g es p q new_values v n) is.1 (subst (λ (n : ℕ). IsPredecessorEdge g es p q new_values n k) (sym is.0) same)
  new_edge v l (inr old) =
      let edge = before.edges v l old.1 in
      let same = value_is.there v old.0 in
      let was = edge.slack in
      let up = grown (edge_at g l).from in
      let slack : get_or new_values v 0 + q * (edge_at g l).tokens ≤ get_or new_values (edge_at g l).from 0 + p = omega arith in
      record { listed = edge.listed; ends = edge.ends; slack = slack }

  new_fresh : (v : ℕ) → get_or new_last v None ≡ None → (v ≡ (edge_at g k).to) ⊎ (v ≢ (edge_at g k).to) → get_or new_values v 0 ≡ 0
  new_fresh v e (inl is) = let some : get_or new_last v None ≡ Some k = ap (λ (n : ℕ). get_or new_last n None) is ∙ last_is.here in cc
  new_fresh v e (inr other) = value_is.there v other ∙ before.fresh v (sym (last_is.there v other) ∙ e)

  new_attained : (from : (edge_at g k).from < g.nodes) (v : ℕ) → v < g.nodes → (v ≡ (edge_at g k).to) ⊎ (v ≢ (edge_at g k).to) → IsAttained g es p q new_values v
  new_attained from v h (inl is) =
      let way : IsAttained g es p q values (edge_at g k).from = before.attained (edge_at g k).from from in
      let more = raises.more in
      let here = value_is.here in
      let far : p * length way.1 ≡ get_or values (edge_at g k).from 0 + q * walk_tokens g way.1 = way.3 in
      let sum : p * length (k ∷ way.1) ≡ get_or new_values (edge_at g k).to 0 + q * walk_tokens g (k ∷ way.1) = omega arith in
      subst (IsAttained g es p q new_values) (sym is) (way.0, k ∷ way.1, (listed, refl, way.2), sum)
  new_attained from v h (inr other) =
      let way : IsAttained g es p q values v = before.attained v h in
      let same = value_is.there v other in
      let far : p * length way.1 ≡ get_or values v 0 + q * walk_tokens g way.1 = way.3 in
      (way.0, way.1, way.2, omega arith)

  pub raised_on : (edge_at g k).from < g.nodes → ArePotentials g es p q new_values new_last
  raised_on from = record {
    value_count = value_is.long ∙ before.value_count;
    predecessor_count = last_is.long ∙ before.predecessor_count;
    edges = λ v l e. new_edge v l (standing last new_last (edge_at g k).to k last_is v l e);
    rising = rising;
    fresh = λ v e. new_fresh v e (cases_eq v (edge_at g k).to);
    attained = λ v h. new_attained from v h (cases_eq v (edge_at g k).to);
  }

-- a round as far as it has come
pub record IsRoundSo (g : Graph) (es : List ℕ) (p q n : ℕ) (values new_values : List ℕ) (last : List (Option ℕ)) (changed : Option ℕ) : Type 0 where
  pub raised : ArePotentials g es p q new_values last
  pub over : IsRound g es p q n values new_values
  pub changed_so : IsRelaxed g values new_values changed

pub over_start : (g : Graph) (es : List ℕ) (p q : ℕ) (values : List ℕ) (last : List (Option ℕ)) → ArePotentials g es p q values last → IsRoundSo g es p q 0 values values last None
over_start g es p q values last raised = record {
  raised = raised;
  over = record { grown = λ v. omega arith; met = λ i h. absurd (omega arith); bounded = λ most small v. let low = small v in omega arith };
  changed_so = refl;
}

-- the first n + 1 edges, where the next edge asks for no more
more_met : (g : Graph) (es : List ℕ) (p q n : ℕ) (values new_values later : List ℕ) → IsRound g es p q n values new_values → ((v : ℕ) → get_or new_values v 0 ≤ get_or later v 0) → get_or new_values (edge_at g (get_or es n 0)).from 0 + p ≤ get_or later (edge_at g (get_or es n 0)).to 0 + q * (edge_at g (get_or es n 0)).tokens → (i : ℕ) → i < n + 1 → get_or values (edge_at g (get_or es i 0)).from 0 + p ≤ get_or later (edge_at g (get_or es i 0)).to 0 + q * (edge_at g (get_or es i 0)).tokens
more_met g es p q n values new_values later over up here i h = by_index (cases_eq i n)
  where
    by_index : (i ≡ n) ⊎ (i ≢ n) → get_or values (edge_at g (get_or es i 0)).from 0 + p ≤ get_or later (edge_at g (get_or es i 0)).to 0 + q * (edge_at g (get_or es i 0)).tokens
    by_index (inl is) =
        let low = over.grown (edge_at g (get_or es n 0)).from in
        subst (λ (j : ℕ). get_or values (edge_at g (get_or es j 0)).from 0 + p ≤ get_or later (edge_at g (get_or es j 0)).to 0 + q * (edge_at g (get_or es j 0)).tokens) (sym is) (omega arith)
    by_index (inr other) =
        let met = over.met i (omega arith) in
        let high = up (edge_at g (get_or es i 0)).to in
        omega arith

module _ (g : Graph) (es : List ℕ) (p q n : ℕ) (edges : AreEdges g es) (h : n < length es) (values new_values : List ℕ) (last : List (Option ℕ)) (changed : Option ℕ) (so : IsRoundSo g es p q n values new_values last changed) (later : List ℕ) (later_last : List (Option ℕ)) where
  abbrev key : ℕ
  key = get_or es n 0

  key_within : get_or es n 0 < length g.edges
  key_within = edges.within n h

  pub over_raised : Relaxes (edge_at g (get_or es n 0)) (get_or es n 0) p q new_values last later later_last → IsRoundSo g es p q (n + 1) values later later_last (Some (edge_at g (get_or es n 0)).to)
  over_raised raises =
      let to : (edge_at g (get_or es n 0)).to < g.nodes = edges.to (get_or es n 0) key_within in
      let listed : Contains es (get_or es n 0) = (n, h, get_or_default es n (get_or es n 0) 0 h) in
      let up = grown g es p q (get_or es n 0) new_values last so.raised listed to later later_last raises in
      let most = bounded g es p q (get_or es n 0) new_values last so.raised listed to later later_last raises in
      let here = (value_is g es p q (get_or es n 0) new_values last so.raised listed to later later_last raises).here in
      let low = so.over.grown (edge_at g (get_or es n 0)).to in
      let more = raises.more in
      record {
        raised = raised_on g es p q (get_or es n 0) new_values last so.raised listed to later later_last raises (edges.from (get_or es n 0) key_within);
        over = record {
          grown = λ v. (let a = so.over.grown v in let b = up v in omega arith);
          met = more_met g es p q n values new_values later so.over up (omega arith);
          bounded = λ m small v. (let b = most (m + p * n) (so.over.bounded m small) v in omega arith);
        };
        changed_so = (to, omega arith);
      }

  pub over_stays : StaysRelaxed (edge_at g (get_or es n 0)) p q new_values last later later_last → IsRoundSo g es p q (n + 1) values later later_last changed
  over_stays stays =
      subst (λ (l : List (Option ℕ)). IsRoundSo g es p q (n + 1) values later l changed) (sym stays.same_predecessors)
      (subst (λ (l : List ℕ). IsRoundSo g es p q (n + 1) values l last changed) (sym stays.same_values)
      record {
        raised = so.raised;
        over = record {
          grown = so.over.grown;
          met = more_met g es p q n values new_values new_values so.over (λ v. omega arith) stays.met;
          bounded = λ m small v. (let b = so.over.bounded m small v in omega arith);
        };
        changed_so = so.changed_so;
      })

  pub over_then : (e : Edge) → e ≡ edge_at g (get_or es n 0) → (b : Bool) → MatchBool b (Relaxes e (get_or es n 0) p q new_values last later later_last) (StaysRelaxed e p q new_values last later later_last) → b ≡ true → (now : Option ℕ) → now ≡ Some e.to → IsRoundSo g es p q (n + 1) values later later_last now
  over_then e is true step holds now now_is = subst (IsRoundSo g es p q (n + 1) values later later_last) (sym (now_is ∙ ap (λ (f : Edge). Some f.to) is)) (over_raised (subst (λ (f : Edge). Relaxes f (get_or es n 0) p q new_values last later later_last) is step))
  over_then e is false step holds now now_is = cc

  pub over_else : (e : Edge) → e ≡ edge_at g (get_or es n 0) → (b : Bool) → MatchBool b (Relaxes e (get_or es n 0) p q new_values last later later_last) (StaysRelaxed e p q new_values last later later_last) → b ≡ false → (now : Option ℕ) → now ≡ changed → IsRoundSo g es p q (n + 1) values later later_last now
  over_else e is false step fails now now_is = subst (IsRoundSo g es p q (n + 1) values later later_last) (sym now_is) (over_stays (subst (λ (f : Edge). StaysRelaxed f p q new_values last later later_last) is step))
  over_else e is true step fails now now_is = cc

  pub key_from : (edge_at g (get_or es n 0)).from < length new_values
  key_from = let from = edges.from (get_or es n 0) key_within in omega (arith, so.raised.value_count)

  pub key_to : (edge_at g (get_or es n 0)).to < length new_values
  key_to = let to = edges.to (get_or es n 0) key_within in omega (arith, so.raised.value_count)

  pub key_last : (edge_at g (get_or es n 0)).to < length last
  key_last = let to = edges.to (get_or es n 0) key_within in omega (arith, so.raised.predecessor_count)

  pub key_tokens : (edge_at g (get_or es n 0)).tokens ≤ 16
  key_tokens = edges.tokens (get_or es n 0) key_within

  pub key_small : AreAtMost values (2 ^ 60) → p * length es ≤ 2 ^ 41 → AreAtMost new_values (2 ^ 61)
  key_small small few v =
      let most = so.over.bounded (2 ^ 60) small v in
      let part : p * n ≤ p * length es = mul-le-mul_left p (omega arith) in
      omega arith
