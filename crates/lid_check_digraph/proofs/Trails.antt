-- Where each number that is left reads one that is left, and there is one, there is a closed walk.
use Rattle.std.proofs.Common.{◌≡◌, ℕ, zero, suc, ◌+◌, ◌≤◌, ◌⊎◌, inl, inr, Bool, true, false, ◌||◌, List, [], ◌∷◌, length, eqb, refl, sym, ◌∙◌, ap, arith}
use Rattle.std.specs.List.{IsDistinct, AllByRecursion, list_any}
use Rattle.std.proofs.lemmas.Bool.{eqb-true, or_parts}
use Rattle.std.proofs.lemmas.Map.Steps.{length-le_from_distinct_below}
use Rattle.lid_base.specs.Lists.{Among}
use Rattle.lid_check_digraph.specs.Graphs.{reads_at, EdgesLead, IsOnLoop, flag}
use Rattle.lid_check_digraph.specs.PartialOrders.{IsStuck}
use Rattle.lid_check_digraph.proofs.Lists.{flag_within}
use Rattle.lid_check_digraph.proofs.Walking.{walk_first}

any_among : (b : ℕ) (xs : List ℕ) → list_any (eqb b) xs ≡ true → Among b xs
any_among b [] e = cc
any_among b (x ∷ xs) e = by_test (eqb b x) refl e (any_among b xs)
  where
    by_test : (t : Bool) → t ≡ eqb b x → t || list_any (eqb b) xs ≡ true → (list_any (eqb b) xs ≡ true → Among b xs) → (b ≡ x) ⊎ Among b xs
    by_test true same e more = inl (eqb-true b x (sym same))
    by_test false same e more = inr (more e)

none_among : (b : ℕ) (xs : List ℕ) → list_any (eqb b) xs ≡ false → AllByRecursion (λ y. eqb b y ≡ false) xs
none_among b [] e = tt
none_among b (x ∷ xs) e = let both = or_parts (eqb b x) (list_any (eqb b) xs) e in (both.0, none_among b xs both.1)

module _ (g : List (List ℕ)) (left : List Bool) (count : length left ≡ length g) (stuck : IsStuck g left) where
  -- numbers that are left, no two equal; from the first a walk leads to each
  pub record IsTrail (x : ℕ) (xs : List ℕ) : Type 0 where
    pub distinct : IsDistinct eqb (x ∷ xs)
    pub all_left : (y : ℕ) → Among y (x ∷ xs) → flag left y ≡ true
    pub leads : (y : ℕ) → Among y (x ∷ xs) → (n : ℕ) × EdgesLead g n x y

  trail_end : (x : ℕ) (xs : List ℕ) → IsTrail x xs → length (x ∷ xs) ≤ length left
  trail_end x xs trail = length-le_from_distinct_below (x ∷ xs) (length left) trail.distinct (λ q e. flag_within left q (trail.all_left q (any_among q (x ∷ xs) e)))

  trail_more : (x b : ℕ) (xs : List ℕ) → IsTrail x xs → Among b (reads_at g x) → flag left b ≡ true → list_any (eqb b) (x ∷ xs) ≡ false → IsTrail b (x ∷ xs)
  unfolding IsDistinct
  trail_more x b xs trail reads on new = record {
    distinct = (none_among b (x ∷ xs) new, trail.distinct);
    all_left = λ y h. left_of y h;
    leads = λ y h. leads_to y h;
  }
    where
      left_of : (y : ℕ) → (y ≡ b) ⊎ Among y (x ∷ xs) → flag left y ≡ true
      left_of y (inl is) = ap (λ (z : ℕ). flag left z) is ∙ on
      left_of y (inr old) = trail.all_left y old

      leads_to : (y : ℕ) → (y ≡ b) ⊎ Among y (x ∷ xs) → (n : ℕ) × EdgesLead g n b y
      leads_to y (inl is) = (0, sym is)
      leads_to y (inr old) = let walk = trail.leads y old in (suc walk.0, walk_first g walk.0 b x y reads walk.1)

  follow : (n x : ℕ) (xs : List ℕ) → IsTrail x xs → length (x ∷ xs) + n ≡ length left + 1 → (k : ℕ) × IsOnLoop g k
  follow zero x xs trail e = absurd (let short = trail_end x xs trail in omega arith)
  follow (suc n) x xs trail e =
      let on = trail.all_left x (inl refl) in
      let within = flag_within left x on in
      let next = stuck x (omega arith) on in
      by_test next.0 next.1 next.2 (list_any (eqb next.0) (x ∷ xs)) refl (follow n)
    where
      by_test : (b : ℕ) → Among b (reads_at g x) → flag left b ≡ true → (t : Bool) → t ≡ list_any (eqb b) (x ∷ xs) → ((y : ℕ) (ys : List ℕ) → IsTrail y ys → length (y ∷ ys) + n ≡ length left + 1 → (k : ℕ) × IsOnLoop g k) → (k : ℕ) × IsOnLoop g k
      by_test b reads on true same more = let walk = trail.leads b (any_among b (x ∷ xs) (sym same)) in (b, (walk.0, walk_first g walk.0 b x b reads walk.1))
      by_test b reads on false same more = more b (x ∷ xs) (trail_more x b xs trail reads on (sym same)) (omega arith)

  pub stuck_loop : (k : ℕ) → flag left k ≡ true → (j : ℕ) × IsOnLoop g j
  unfolding IsDistinct
  stuck_loop k on = follow (length left) k [] trail (omega arith)
    where
      only : (y : ℕ) → Among y (k ∷ []) → y ≡ k
      only y (inl is) = is
      only y (inr none) = absurd none

      trail : IsTrail k []
      trail = record {
        distinct = (tt, tt);
        all_left = λ y h. ap (λ (z : ℕ). flag left z) (only y h) ∙ on;
        leads = λ y h. (0, sym (only y h));
      }
