-- Walks that meet a transition twice go round.
use Rattle.std.proofs.Common.{◌≡◌, ℕ, zero, suc, ◌+◌, ◌<◌, ◌≤◌, ◌==◌, ◌||◌, ◌⊎◌, inl, inr, Bool, true, false, List, [], ◌∷◌, ◌++◌, length, refl, sym, ◌∙◌, ap, subst, arith}
use Rattle.std.specs.List.{IsDistinct, AllByRecursion, list_any}
use Rattle.std.proofs.lemmas.Bool.{eqb-true}
use Rattle.std.proofs.lemmas.List.{length-append}
use Rattle.std.proofs.lemmas.Map.Steps.{length-le_from_distinct_below}
use Rattle.lid_graph.specs.declared.graph.Graph.{Graph}
use Rattle.lid_graph.specs.Walks.{edge_at, IsPaired, IsWalk, IsClosedWalk, walk_start, walk_tokens}
use Rattle.lid_graph.proofs.Journeys.{walk_append}
use Rattle.lid_graph_laws.proofs.Walking.{tokens_append}
use Rattle.lid_graph_laws.proofs.Alive.{met, length_met, all_differ, met_below}

-- a walk cut where it meets w
record IsCutAt (g : Graph) (u v w : ℕ) (ks : List ℕ) : Type 0 where
  first : List ℕ
  second : List ℕ
  leads : IsWalk g u first w
  on : IsWalk g w second v
  long : length ks ≡ length first + length second
  tokens : walk_tokens g ks ≡ walk_tokens g first + walk_tokens g second

cut_at : (g : Graph) (u v w : ℕ) (ks : List ℕ) → IsWalk g u ks v → list_any (λ x. w == x) (met g u ks) ≡ true → IsCutAt g u v w ks
cut_at g u v w [] walk is = by_head (w == u) refl is
  where
    by_head : (b : Bool) → w == u ≡ b → (b || false) ≡ true → IsCutAt g u v w []
    by_head true e is = record { first = []; second = []; leads = sym (eqb-true w u e); on = eqb-true w u e ∙ walk; long = omega arith; tokens = omega arith }
    by_head false e is = cc
cut_at g u v w (k ∷ ks) walk is = by_head (w == u) refl is (λ is. cut_at g (edge_at g k).to v w ks walk.2 is)
  where
    later : IsCutAt g (edge_at g k).to v w ks → IsCutAt g u v w (k ∷ ks)
    later c = record { first = k ∷ c.first; second = c.second; leads = (walk.0, walk.1, c.leads); on = c.on; long = omega (arith, c.long); tokens = omega (arith, c.tokens) }

    by_head : (b : Bool) → w == u ≡ b → (b || list_any (λ x. w == x) (met g (edge_at g k).to ks)) ≡ true → (list_any (λ x. w == x) (met g (edge_at g k).to ks) ≡ true → IsCutAt g (edge_at g k).to v w ks) → IsCutAt g u v w (k ∷ ks)
    by_head true e is rest = record { first = []; second = k ∷ ks; leads = sym (eqb-true w u e); on = (walk.0, walk.1 ∙ sym (eqb-true w u e), walk.2); long = omega arith; tokens = omega arith }
    by_head false e is rest = later (rest is)

-- a walk with a closed walk on its way
pub record GoesRound (g : Graph) (u v : ℕ) (ks : List ℕ) : Type 0 where
  pub middle : ℕ
  pub first : List ℕ
  pub round : List ℕ
  pub last : List ℕ
  pub leads : IsWalk g u first middle
  pub around : IsWalk g middle round middle
  pub on : IsWalk g middle last v
  pub some : 0 < length round
  pub long : length ks ≡ length first + length round + length last
  pub tokens : walk_tokens g ks ≡ walk_tokens g first + walk_tokens g round + walk_tokens g last

-- a walk goes round, or meets no transition twice
round_or_once : (g : Graph) (u v : ℕ) (ks : List ℕ) → IsWalk g u ks v → GoesRound g u v ks ⊎ IsDistinct (λ x y. x == y) (met g u ks)
unfolding IsDistinct
round_or_once g u v [] walk = inr (tt, tt)
round_or_once g u v (k ∷ ks) walk = by_again (list_any (λ x. u == x) (met g (edge_at g k).to ks)) refl (round_or_once g (edge_at g k).to v ks walk.2)
  where
    here : IsCutAt g (edge_at g k).to v u ks → GoesRound g u v (k ∷ ks)
    here c = record {
      middle = u;
      first = [];
      round = k ∷ c.first;
      last = c.second;
      leads = refl;
      around = (walk.0, walk.1, c.leads);
      on = c.on;
      some = omega arith;
      long = omega (arith, c.long);
      tokens = omega (arith, c.tokens);
    }

    later : GoesRound g (edge_at g k).to v ks → GoesRound g u v (k ∷ ks)
    later r = record {
      middle = r.middle;
      first = k ∷ r.first;
      round = r.round;
      last = r.last;
      leads = (walk.0, walk.1, r.leads);
      around = r.around;
      on = r.on;
      some = r.some;
      long = omega (arith, r.long);
      tokens = omega (arith, r.tokens);
    }

    by_rest : AllByRecursion (λ x. (u == x) ≡ false) (met g (edge_at g k).to ks) → GoesRound g (edge_at g k).to v ks ⊎ IsDistinct (λ x y. x == y) (met g (edge_at g k).to ks) → GoesRound g u v (k ∷ ks) ⊎ IsDistinct (λ x y. x == y) (met g u (k ∷ ks))
    by_rest apart (inl r) = inl (later r)
    by_rest apart (inr once) = inr (apart, once)

    by_again : (b : Bool) → list_any (λ x. u == x) (met g (edge_at g k).to ks) ≡ b → GoesRound g (edge_at g k).to v ks ⊎ IsDistinct (λ x y. x == y) (met g (edge_at g k).to ks) → GoesRound g u v (k ∷ ks) ⊎ IsDistinct (λ x y. x == y) (met g u (k ∷ ks))
    by_again true is rest = inl (here (cut_at g (edge_at g k).to v u ks walk.2 is))
    by_again false is rest = by_rest (all_differ u (met g (edge_at g k).to ks) is) rest

-- a walk of as many edges as there are transitions goes round
pub goes_round : (g : Graph) → IsPaired g → (u v : ℕ) (ks : List ℕ) → IsWalk g u ks v → u < g.nodes → g.nodes ≤ length ks → GoesRound g u v ks
goes_round g paired u v ks walk h long = by_once (round_or_once g u v ks walk)
  where
    by_once : GoesRound g u v ks ⊎ IsDistinct (λ x y. x == y) (met g u ks) → GoesRound g u v ks
    by_once (inl r) = r
    by_once (inr once) =
        let most : length (met g u ks) ≤ g.nodes = length-le_from_distinct_below (met g u ks) g.nodes once (met_below g paired u v ks walk h) in
        absurd (omega (arith, length_met g u ks))

-- the walk without its round
pub record IsShortened (g : Graph) (u v : ℕ) (ks ls round : List ℕ) : Type 0 where
  pub leads : IsWalk g u ls v
  pub long : length ks ≡ length ls + length round
  pub tokens : walk_tokens g ks ≡ walk_tokens g ls + walk_tokens g round

pub shortened : (g : Graph) (u v : ℕ) (ks : List ℕ) → (r : GoesRound g u v ks) → IsShortened g u v ks (r.first ++ r.last) r.round
shortened g u v ks r = record {
  leads = walk_append g r.first r.last u r.middle v r.leads r.on;
  long = omega (arith, r.long, length-append r.first r.last);
  tokens = omega (arith, r.tokens, tokens_append g r.first r.last);
}

-- a walk with an edge that ends where it begins is a closed walk
pub closed_at : (g : Graph) (w : ℕ) (ks : List ℕ) → IsWalk g w ks w → 0 < length ks → (walk_start g ks ≡ w) × IsClosedWalk g ks
closed_at g w [] walk some = absurd (omega arith)
closed_at g w (k ∷ ks) walk some = (walk.1, record { some = some; closed = (walk.0, refl, subst (IsWalk g (edge_at g k).to ks) (sym walk.1) walk.2) })
