-- Walks joined, begun by an edge, and past a cut.
use Rattle.std.proofs.Common.{◌≡◌, ℕ, zero, suc, ◌↔◌, Bool, true, false, List, set, refl, ◌∙◌, subst}
use Rattle.lid_base.specs.Lists.{Among}
use Rattle.lid_check_digraph.specs.Graphs.{reads_at, EdgesLead, IsOnLoop, flag, WalkPast}
use Rattle.lid_check_digraph.specs.PartialOrders.{SparesLoops}
use Rattle.lid_check_digraph.specs.Searches.{IsFeeding}
use Rattle.lid_check_digraph.proofs.Lists.{flag_there}

module _ (g : List (List ℕ)) where
  -- an edge and then a walk
  pub walk_first : (n b c d : ℕ) → Among b (reads_at g c) → EdgesLead g n c d → EdgesLead g (suc n) b d
  walk_first zero b c d e w = (b, refl, subst (λ (x : ℕ). Among b (reads_at g x)) w e)
  walk_first (suc n) b c d e w = (w.0, walk_first n b c w.0 e w.1, w.2)

  -- a walk and then a walk
  pub walk_join : (m n a b c : ℕ) → EdgesLead g m a b → EdgesLead g n b c → (p : ℕ) × EdgesLead g p a c
  walk_join m zero a b c v w = (m, subst (λ (x : ℕ). EdgesLead g m a x) w v)
  walk_join m (suc n) a b c v w = let both = walk_join m n a b w.0 v w.1 in (suc both.0, (w.0, both.1, w.2))

  module _ (cut : List Bool) where
    pub past_first : (n b c d : ℕ) → Among b (reads_at g c) → flag cut c ≡ false → WalkPast g cut n c d → WalkPast g cut (suc n) b d
    past_first zero b c d e free w = (b, refl, subst (λ (x : ℕ). Among b (reads_at g x)) w e, subst (λ (x : ℕ). flag cut x ≡ false) w free)
    past_first (suc n) b c d e free w = (w.0, past_first n b c w.0 e free w.1, w.2, w.3)

    pub past_walk : (n a c : ℕ) → WalkPast g cut n a c → EdgesLead g n a c
    past_walk zero a c w = w
    past_walk (suc n) a c w = (w.0, past_walk n a w.0 w.1, w.2)

    -- a walk that is part of a closed one passes a cut that spares closed walks
    pub walk_past : SparesLoops g cut → (m n k c : ℕ) → EdgesLead g n k c → EdgesLead g m c k → WalkPast g cut n k c
    walk_past spares m zero k c w back = w
    walk_past spares m (suc n) k c w back =
        let round = walk_join m n c k w.0 back w.1 in
        (w.0, walk_past spares (suc m) n k w.0 w.1 (walk_first m w.0 c k w.2 back), w.2, spares c (round.0, (w.0, round.1, w.2)))

    -- a number that feeds itself is one on a closed walk
    pub loop_feeds : SparesLoops g cut → (k : ℕ) → IsOnLoop g k → IsFeeding g cut k k
    loop_feeds spares k on = (on.0, walk_past spares 0 (suc on.0) k k on.1 refl)

    pub feeds_loop : (k : ℕ) → IsFeeding g cut k k → IsOnLoop g k
    feeds_loop k feeds = (feeds.0, past_walk (suc feeds.0) k k feeds.1)

    -- told by marks of what feeds it
    pub loop_told : SparesLoops g cut → (k : ℕ) (seen : List Bool) → (flag seen k ≡ true) ↔ IsFeeding g cut k k → (flag seen k ≡ true) ↔ IsOnLoop g k
    loop_told spares k seen exact = (λ on. feeds_loop k (exact.0 on), λ loop. exact.1 (loop_feeds spares k loop))

    -- a number that lies on no closed walk may be cut too
    pub spares_more : SparesLoops g cut → (k : ℕ) → (IsOnLoop g k → ⊥) → SparesLoops g (set cut k true)
    spares_more spares k none j on = flag_there cut k j true (λ is. none (subst (IsOnLoop g) is on)) ∙ spares j on
