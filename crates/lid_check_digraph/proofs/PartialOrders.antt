-- A part of an order, and one number more.
use Rattle.std.proofs.Common.{◌≡◌, ℕ, ◌+◌, ◌<◌, ◌≤◌, ◌≢◌, ◌⊎◌, inl, inr, Bool, true, false, List, [], ◌∷◌, ◌++◌, length, get_or, set, take, cond, refl, sym, ◌∙◌, ap, subst, arith}
use Rattle.std.proofs.lemmas.Bool.{cases_eq, cases_lt}
use Rattle.std.proofs.lemmas.List.{get_or_append_left, length-append, length-set, take-append-le}
use Rattle.std.proofs.lemmas.List.Sums.{sum_by-set}
use Rattle.std.proofs.Math.Seq.{get_or-append_seam, take-append_seam}
use Rattle.std.specs.Bool.{MatchBool}
use Rattle.lid_base.specs.Lists.{Among}
use Rattle.lid_base.proofs.Lists.{among_left, among_last, among_push}
use Rattle.lid_check_digraph.specs.Graphs.{reads_at, IsGraph, IsOrder, flag}
use Rattle.lid_check_digraph.specs.PartialOrders.{IsPartialOrder, marked, count_true, MarksLoops}
use Rattle.lid_check_digraph.proofs.Lists.{flag_here, flag_there, flag_within, none_marked}
use Rattle.lid_check_digraph.proofs.Orders.{no_loop_among, loop_within}

-- a round that took something leaves less, and one that did not is the last
pub round_smaller : (took before : Bool) (P : Type 0) (old new : ℕ) → MatchBool took (new < old) P → new ≤ old → before ≡ true → new + cond took 1 0 < old + cond before 1 0
round_smaller true true P old new says no_more e = omega arith
round_smaller false true P old new says no_more e = omega arith
round_smaller took false P old new says no_more e = cc

-- one mark fewer
pub marked_less : (flags : List Bool) (k : ℕ) → flag flags k ≡ true → marked (set flags k false) + 1 ≡ marked flags
marked_less flags k e =
    let within = flag_within flags k e in
    let sums : marked (set flags k false) + count_true (flag flags k) ≡ marked flags + count_true false = sum_by-set count_true flags k false false within in
    let one : count_true (flag flags k) ≡ 1 = ap count_true e in
    omega arith

module _ (g : List (List ℕ)) (order : List ℕ) (left : List Bool) (part : IsPartialOrder g order left) where
  -- what lies on a closed walk is left
  pub loops_left : MarksLoops g left
  loops_left k on = by_flag (flag left k) refl
    where
      by_flag : (b : Bool) → b ≡ flag left k → flag left k ≡ true
      by_flag true e = sym e
      by_flag false e = absurd (no_loop_among g order part.earlier part.once k (part.some k (loop_within g k on) (sym e)) on)

  -- where all numbers are taken, it is an order of them
  pub part_whole : length order ≡ length g → IsOrder g order
  part_whole long =
      let counted = part.counted in
      let none : marked left ≡ 0 = omega arith in
      record {
        long = long;
        all = λ k h. part.some k h (none_marked left k none);
        within = part.within;
        once = part.once;
        earlier = part.earlier;
      }

  module _ (graph : IsGraph g) (k : ℕ) (in_left : flag left k ≡ true) (taken : (b : ℕ) → Among b (reads_at g k) → flag left b ≡ false) where
    k_within : k < length g
    k_within = let h = flag_within left k in_left in omega (arith, part.count)

    not_among : Among k order → ⊥
    not_among h = let e = part.taken k h in cc

    early : (i : ℕ) → i < length order → get_or (order ++ k ∷ []) i 0 ≡ get_or order i 0
    early i h = get_or_append_left order (k ∷ []) 0 i h

    front : (i : ℕ) → i ≤ length order → take i (order ++ k ∷ []) ≡ take i order
    front i h = take-append-le i order (k ∷ []) h

    last_is : (i : ℕ) → i < length (order ++ k ∷ []) → length order ≤ i → i ≡ length order
    last_is i h late = let long : length (order ++ k ∷ []) ≡ length order + 1 = length-append order (k ∷ []) in omega arith

    at_last : (i : ℕ) → i ≡ length order → get_or (order ++ k ∷ []) i 0 ≡ k
    at_last i e = ap (λ (j : ℕ). get_or (order ++ k ∷ []) j 0) e ∙ get_or-append_seam order k [] 0

    front_last : (i : ℕ) → i ≡ length order → take i (order ++ k ∷ []) ≡ order
    front_last i e = ap (λ (j : ℕ). take j (order ++ k ∷ [])) e ∙ take-append_seam order (k ∷ [])

    new_some : (c : ℕ) → c < length g → flag (set left k false) c ≡ false → Among c (order ++ k ∷ [])
    new_some c h e = by_number (cases_eq c k)
      where
        by_number : (c ≡ k) ⊎ (c ≢ k) → Among c (order ++ k ∷ [])
        by_number (inl is) = subst (λ (x : ℕ). Among x (order ++ k ∷ [])) (sym is) (among_last k order)
        by_number (inr other) = among_left c order (k ∷ []) (part.some c h (sym (flag_there left k c false other) ∙ e))

    new_taken : (c : ℕ) → Among c (order ++ k ∷ []) → flag (set left k false) c ≡ false
    new_taken c h = by_number (cases_eq c k) (among_push c k order h)
      where
        by_number : (c ≡ k) ⊎ (c ≢ k) → Among c order ⊎ (c ≡ k) → flag (set left k false) c ≡ false
        by_number (inl is) old = ap (λ (x : ℕ). flag (set left k false) x) is ∙ flag_here left k false (flag_within left k in_left)
        by_number (inr other) (inl old) = flag_there left k c false other ∙ part.taken c old
        by_number (inr other) (inr is) = absurd (other is)

    new_within : (c : ℕ) → Among c order ⊎ (c ≡ k) → c < length g
    new_within c (inl old) = part.within c old
    new_within c (inr is) = subst (λ (x : ℕ). x < length g) (sym is) k_within

    new_once : (i : ℕ) → i < length (order ++ k ∷ []) → Among (get_or (order ++ k ∷ []) i 0) (take i (order ++ k ∷ [])) → ⊥
    new_once i h again = by_place (cases_lt i (length order))
      where
        by_place : (i < length order) ⊎ (length order ≤ i) → ⊥
        by_place (inl less) = part.once i less (subst (λ (xs : List ℕ). Among (get_or order i 0) xs) (front i (omega arith)) (subst (λ (x : ℕ). Among x (take i (order ++ k ∷ []))) (early i less) again))
        by_place (inr late) =
            let is = last_is i h late in
            not_among (subst (λ (xs : List ℕ). Among k xs) (front_last i is) (subst (λ (x : ℕ). Among x (take i (order ++ k ∷ []))) (at_last i is) again))

    new_earlier : (i b : ℕ) → i < length (order ++ k ∷ []) → Among b (reads_at g (get_or (order ++ k ∷ []) i 0)) → Among b (take i (order ++ k ∷ []))
    new_earlier i b h reads = by_place (cases_lt i (length order))
      where
        by_place : (i < length order) ⊎ (length order ≤ i) → Among b (take i (order ++ k ∷ []))
        by_place (inl less) = subst (λ (xs : List ℕ). Among b xs) (sym (front i (omega arith))) (part.earlier i b less (subst (λ (x : ℕ). Among b (reads_at g x)) (early i less) reads))
        by_place (inr late) =
            let is = last_is i h late in
            let here = subst (λ (x : ℕ). Among b (reads_at g x)) (at_last i is) reads in
            subst (λ (xs : List ℕ). Among b xs) (sym (front_last i is)) (part.some b (graph.within k b here) (taken b here))

    -- a number of which nothing that it reads is left
    pub part_more : IsPartialOrder g (order ++ k ∷ []) (set left k false)
    part_more = record {
      count = length-set left k false ∙ part.count;
      counted =
          let long : length (order ++ k ∷ []) ≡ length order + 1 = length-append order (k ∷ []) in
          let less = marked_less left k in_left in
          let counted = part.counted in
          omega arith;
      some = new_some;
      taken = new_taken;
      within = λ c h. new_within c (among_push c k order h);
      once = new_once;
      earlier = new_earlier;
    }
