-- A closed walk of a component's ratio that meets no transition twice.
use Rattle.std.proofs.Common.{◌≡◌, ℕ, zero, suc, ◌+◌, ◌*◌, ◌<◌, ◌≤◌, ◌==◌, ◌||◌, ◌⊎◌, inl, inr, Bool, true, false, List, [], ◌∷◌, ◌++◌, length, map, refl, sym, ◌∙◌, ap, subst, arith}
use Rattle.std.specs.List.{IsDistinct, AllByRecursion, list_any}
use Rattle.std.proofs.lemmas.Bool.{eqb-true}
use Rattle.std.proofs.lemmas.List.{length-append}
use Rattle.lid_graph.specs.declared.graph.Graph.{Graph}
use Rattle.lid_graph.specs.Walks.{edge_at, IsWalk, IsJoined, walk_start, walk_tokens}
use Rattle.lid_graph.specs.Ratios.{IsClosedWalkNear, IsRatio}
use Rattle.lid_graph.proofs.Journeys.{joined_step}
use Rattle.lid_graph_laws.proofs.Alive.{all_differ}
use Rattle.lid_graph_ratio_laws.proofs.Splitting.{GoesRound, shortened, closed_at}

-- where the edges end
abbrev pub ends : Graph → List ℕ → List ℕ
ends g ks = map (λ k. (edge_at g k).to) ks

-- a walk cut after an edge that ends at w
record IsCutAfter (g : Graph) (u v w : ℕ) (ks : List ℕ) : Type 0 where
  first : List ℕ
  second : List ℕ
  leads : IsWalk g u first w
  on : IsWalk g w second v
  some : 0 < length first
  long : length ks ≡ length first + length second
  tokens : walk_tokens g ks ≡ walk_tokens g first + walk_tokens g second

cut_after : (g : Graph) (u v w : ℕ) (ks : List ℕ) → IsWalk g u ks v → list_any (λ x. w == x) (ends g ks) ≡ true → IsCutAfter g u v w ks
cut_after g u v w [] walk is = cc
cut_after g u v w (k ∷ ks) walk is = by_head (w == (edge_at g k).to) refl is (λ is. cut_after g (edge_at g k).to v w ks walk.2 is)
  where
    later : IsCutAfter g (edge_at g k).to v w ks → IsCutAfter g u v w (k ∷ ks)
    later c = record { first = k ∷ c.first; second = c.second; leads = (walk.0, walk.1, c.leads); on = c.on; some = omega arith; long = omega (arith, c.long); tokens = omega (arith, c.tokens) }

    here : w ≡ (edge_at g k).to → IsCutAfter g u v w (k ∷ ks)
    here same = record { first = k ∷ []; second = ks; leads = (walk.0, walk.1, sym same); on = subst (λ (n : ℕ). IsWalk g n ks v) (sym same) walk.2; some = omega arith; long = omega arith; tokens = omega arith }

    by_head : (b : Bool) → w == (edge_at g k).to ≡ b → (b || list_any (λ x. w == x) (ends g ks)) ≡ true → (list_any (λ x. w == x) (ends g ks) ≡ true → IsCutAfter g (edge_at g k).to v w ks) → IsCutAfter g u v w (k ∷ ks)
    by_head true e is rest = here (eqb-true w (edge_at g k).to e)
    by_head false e is rest = later (rest is)

-- a walk leads to where an edge of it ends
pub reaches_end : (g : Graph) (u v w : ℕ) (ks : List ℕ) → IsWalk g u ks v → list_any (λ x. w == x) (ends g ks) ≡ true → IsJoined g u w
reaches_end g u v w ks walk is = let c = cut_after g u v w ks walk is in (c.first, c.leads)

-- a walk that goes round after its first edge
pub record GoesRoundLater (g : Graph) (u v : ℕ) (ks : List ℕ) : Type 0 where
  pub round : GoesRound g u v ks
  pub late : 0 < length round.first

-- a walk goes round after its first edge, or no two of its edges end at the same transition
pub round_or_once : (g : Graph) (u v : ℕ) (ks : List ℕ) → IsWalk g u ks v → GoesRoundLater g u v ks ⊎ IsDistinct (λ x y. x == y) (ends g ks)
unfolding IsDistinct
round_or_once g u v [] walk = inr tt
round_or_once g u v (k ∷ ks) walk = by_again (list_any (λ x. (edge_at g k).to == x) (ends g ks)) refl (round_or_once g (edge_at g k).to v ks walk.2)
  where
    here : IsCutAfter g (edge_at g k).to v (edge_at g k).to ks → GoesRoundLater g u v (k ∷ ks)
    here c = record {
      round = record {
        middle = (edge_at g k).to;
        first = k ∷ [];
        round = c.first;
        last = c.second;
        leads = (walk.0, walk.1, refl);
        around = c.leads;
        on = c.on;
        some = c.some;
        long = omega (arith, c.long);
        tokens = omega (arith, c.tokens);
      };
      late = omega arith;
    }

    later : GoesRound g (edge_at g k).to v ks → GoesRoundLater g u v (k ∷ ks)
    later r = record {
      round = record {
        middle = r.middle;
        first = k ∷ r.first;
        round = r.round;
        last = r.last;
        leads = (walk.0, walk.1, r.leads);
        around = r.around;
        on = r.on;
        some = r.some;
        long = omega (arith, r.long);
        tokens = omega (arith, r.tokens);
      };
      late = omega arith;
    }

    by_rest : AllByRecursion (λ x. ((edge_at g k).to == x) ≡ false) (ends g ks) → GoesRoundLater g (edge_at g k).to v ks ⊎ IsDistinct (λ x y. x == y) (ends g ks) → GoesRoundLater g u v (k ∷ ks) ⊎ IsDistinct (λ x y. x == y) (ends g (k ∷ ks))
    by_rest apart (inl r) = inl (later r.round)
    by_rest apart (inr once) = inr (apart, once)

    by_again : (b : Bool) → list_any (λ x. (edge_at g k).to == x) (ends g ks) ≡ b → GoesRoundLater g (edge_at g k).to v ks ⊎ IsDistinct (λ x y. x == y) (ends g ks) → GoesRoundLater g u v (k ∷ ks) ⊎ IsDistinct (λ x y. x == y) (ends g (k ∷ ks))
    by_again true is rest = inl (here (cut_after g (edge_at g k).to v (edge_at g k).to ks walk.2 is))
    by_again false is rest = by_rest (all_differ (edge_at g k).to (ends g ks) is) rest

-- a closed walk of the component of v that has its ratio, no two of whose edges end at the same transition
pub record HasRound (g : Graph) (v p q : ℕ) : Type 0 where
  pub edges : List ℕ
  pub near : IsClosedWalkNear g v edges
  pub same : q * walk_tokens g edges ≡ p * length edges
  pub once : IsDistinct (λ x y. x == y) (ends g edges)

module _ (g : Graph) (v p q : ℕ) (ratio : IsRatio g v p q) where
  shorten : (most : ℕ) (ks : List ℕ) → IsClosedWalkNear g v ks → q * walk_tokens g ks ≡ p * length ks → length ks ≤ most → HasRound g v p q
  shorten zero ks near same few = absurd (let some = near.0.some in omega arith)
  shorten (suc most) ks near same few = by_round (round_or_once g (walk_start g ks) (walk_start g ks) ks near.0.closed) (λ ls n s less. shorten most ls n s less)
    where
      Shorter : Type 0
      Shorter = (ls : List ℕ) → IsClosedWalkNear g v ls → q * walk_tokens g ls ≡ p * length ls → length ls ≤ most → HasRound g v p q

      on : (r : GoesRound g (walk_start g ks) (walk_start g ks) ks) → 0 < length r.first → Shorter → HasRound g v p q
      on r late shorter =
          let s = shortened g (walk_start g ks) (walk_start g ks) ks r in
          let around = closed_at g r.middle r.round r.around r.some in
          let reached : IsJoined g v r.middle = joined_step g v (walk_start g ks) r.middle near.1 (r.first, r.leads) in
          let bound : p * length r.round ≤ q * walk_tokens g r.round = ratio.all r.round (around.1, subst (IsJoined g v) (sym around.0) reached) in
          let long : length (r.first ++ r.last) ≡ length r.first + length r.last = length-append r.first r.last in
          let rest = closed_at g (walk_start g ks) (r.first ++ r.last) s.leads (omega arith) in
          let near_rest : IsClosedWalkNear g v (r.first ++ r.last) = (rest.1, subst (IsJoined g v) (sym rest.0) near.1) in
          let least : p * length (r.first ++ r.last) ≤ q * walk_tokens g (r.first ++ r.last) = ratio.all (r.first ++ r.last) near_rest in
          let edges : p * length ks ≡ p * length (r.first ++ r.last) + p * length r.round = ap (λ (n : ℕ). p * n) s.long ∙ omega arith in
          let tokens : q * walk_tokens g ks ≡ q * walk_tokens g (r.first ++ r.last) + q * walk_tokens g r.round = ap (λ (n : ℕ). q * n) s.tokens ∙ omega arith in
          shorter (r.first ++ r.last) near_rest (omega arith) (omega (arith, s.long, r.some))

      by_round : GoesRoundLater g (walk_start g ks) (walk_start g ks) ks ⊎ IsDistinct (λ x y. x == y) (ends g ks) → Shorter → HasRound g v p q
      by_round (inl r) shorter = on r.round r.late shorter
      by_round (inr once) shorter = record { edges = ks; near = near; same = same; once = once }

  pub has_round : HasRound g v p q
  has_round = let w = ratio.some in shorten (length w.0) w.0 w.1 w.2 (omega arith)
