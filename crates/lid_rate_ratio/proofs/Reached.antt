-- A tree that no edge leads out of comes to each transition that is joined to its start.
use Rattle.std.proofs.Common.{◌≡◌, ℕ, ◌*◌, ◌^◌, ◌<◌, ◌≤◌, ◌≢◌, ◌==◌, Bool, true, false, ◌||◌, List, [], ◌∷◌, length, get_or, Option, Some, None, is_some, refl, ◌∙◌, ap, subst, arith}
use Rattle.std.specs.Option.{MatchOption}
use Rattle.std.proofs.lemmas.Bool.{eq-eqb, ne_eqb}
use Rattle.std.proofs.Math.Nat.{mul-le-mul_right}
use Rattle.lid_graph.specs.declared.graph.Graph.{Graph}
use Rattle.lid_graph.specs.Walks.{edge_at, IsWalk}
use Rattle.lid_rate_ratio.specs.SpanningTrees.{is_reached, IsTree, IsSpanning}
use Rattle.lid_rate_ratio.specs.Components.{CanSpan, IsBranch, SpansFrom}
use Rattle.lid_rate_ratio.specs.Numbers.{AreAllNumbers}
use Rattle.lid_rate_ratio.proofs.Settles.{contains_within}
use Rattle.lid_rate_ratio.proofs.Searched.{are_edges}

module _ (g : Graph) (start q first : ℕ) (can : CanSpan g start q first) (all : List ℕ) (numbers : AreAllNumbers (length g.edges) all) (via : List (Option ℕ)) (lead depth : List ℕ) (tree : IsTree g all start q first via lead depth) (closed : IsSpanning g all start (length all) via) where
  along : (ks : List ℕ) (u v : ℕ) → IsWalk g u ks v → is_reached start via u ≡ true → is_reached start via v ≡ true
  along [] u v walk reached = subst (λ (n : ℕ). is_reached start via n ≡ true) walk reached
  along (k ∷ ks) u v walk reached =
      let here : is_reached start via (edge_at g k).from ≡ true = ap (is_reached start via) walk.1 ∙ reached in
      let on : is_reached start via (edge_at g k).from ≡ true → is_reached start via (edge_at g k).to ≡ true = subst (λ (l : ℕ). is_reached start via (edge_at g l).from ≡ true → is_reached start via (edge_at g l).to ≡ true) (numbers.each k walk.0) (closed k (let l = numbers.long in let w = walk.0 in omega arith)) in
      along ks (edge_at g k).to v walk.2 (on here)

  start_reached : is_reached start via start ≡ true
  start_reached = let e : start == start ≡ true = eq-eqb start start refl in rw e refl

  reached : (v : ℕ) → v < g.nodes → is_reached start via v ≡ true
  reached v h = let way = can.joined v h in along way.0 start v way.1 start_reached

  branch : (v : ℕ) → v < g.nodes → v ≢ start → MatchOption (get_or via v None) ⊥ (IsBranch g q lead depth v)
  branch v h other = by_edge (get_or via v None) refl
    where
      by_edge : (o : Option ℕ) → get_or via v None ≡ o → MatchOption o ⊥ (IsBranch g q lead depth v)
      by_edge None e =
          let yes = reached v h in
          let no : is_reached start via v ≡ false = ap (λ (b : Bool). b || is_some (get_or via v None)) (ne_eqb v start other) ∙ ap is_some e in
          absurd (cc)
      by_edge (Some k) e = record {
        within = contains_within g all k (are_edges g can.graph all numbers) ((tree.edges v k e).listed);
        ends = (tree.edges v k e).ends;
        deeper = (tree.edges v k e).deeper;
        leads = (tree.edges v k e).leads;
      }

  low : (v : ℕ) → get_or lead v 0 ≤ 2 ^ 61
  low v =
      let small = tree.small v in
      let shallow = tree.shallow v in
      let nodes = can.graph.nodes in
      let first_low = can.low_first in
      let scaled : q * get_or depth v 0 ≤ 2 ^ 18 * get_or depth v 0 = mul-le-mul_right (get_or depth v 0) can.small_q in
      omega arith

  pub spans : SpansFrom g start q first via lead depth
  spans = record {
    lists = tree.lists;
    root = tree.root;
    branches = branch;
    small = low;
  }
