-- Models that never reach themselves have an order in which each stands after the models of its
-- instances.
use Rattle.std.proofs.Common.{◌≡◌, ◌⊎◌, ℕ, zero, suc, ◌+◌, ◌<◌, ◌≤◌, Bool, true, false, not, ◌&&◌, cond, List, [], ◌∷◌, ◌++◌, length, filter, Option, Some, None, option_and_then, slice_get, inl, inr, refl, sym, ◌∙◌, ap, arith, length-append}
use Rattle.std.specs.Option.{option_map_or}
use Rattle.lid_base.specs.Lists.{Among}
use Rattle.lid_base.proofs.Lists.{among_left, among_right, among_append, among_filter, filter_among}
use Rattle.lid_design.specs.declared.Design.{Design}
use Rattle.lid_design.specs.declared.Inst.{Inst}
use Rattle.lid_design.specs.WellFormed.{IsWellFormed}
use Rattle.lid_design.specs.Models.{Ascend, AreReached, HasNoRecursion, IsReached, insts_of, number_named, instance_number, number_from}
use Rattle.lid_check_hierarchy.specs.Surveys.{StandsAfterItsModels, IsModelOrder}
use Rattle.lid_check_drivers.proofs.Shallow.{IsShallow}
use Rattle.lid_check.proofs.Descent.{without}
use Rattle.lid_check_hierarchy.proofs.Walks.{reached_below}

module _ (d : Design) where
  -- one or more instances lead from model x to model k
  abbrev Above : ℕ → ℕ → Type 0
  Above x k = (i : ℕ) × (path : List ℕ) × (number_from d x (i ∷ path) ≡ Some k)

  one_above : (k i j x : ℕ) → instance_number d i k ≡ Some j → x ≡ k → Above x j
  unfolding number_from
  one_above k i j x names same = (i, [], ap (instance_number d i) same ∙ names)

  more_above : (x k i j : ℕ) → instance_number d i k ≡ Some j → Above x k → Above x j
  unfolding number_from
  more_above x k i j names above = (i, above.0 ∷ above.1, ap (option_and_then (instance_number d i)) above.2 ∙ names)

  reached_next : (k i j : ℕ) → instance_number d i k ≡ Some j → IsReached d k → IsReached d j
  unfolding number_from
  reached_next k i j names reached = (i ∷ reached.0, ap (option_and_then (instance_number d i)) reached.1 ∙ names)

  -- each reached model leads to k, but those of a list
  abbrev Covers : ℕ → List ℕ → Type 0
  Covers k rest = (x : ℕ) → IsReached d x → Above x k ⊎ Among x rest

  step_covers : (k i j : ℕ) (rest others : List ℕ) → instance_number d i k ≡ Some j → Covers k rest → ((y : ℕ) → Among y rest → (y ≡ k) ⊎ Among y others) → Covers j others
  step_covers k i j rest others names cover split x reached = by (cover x reached)
    where
      at : (x ≡ k) ⊎ Among x others → Above x j ⊎ Among x others
      at (inl same) = inl (one_above k i j x names same)
      at (inr among) = inr among

      by : Above x k ⊎ Among x rest → Above x j ⊎ Among x others
      by (inl above) = inl (more_above x k i j names above)
      by (inr among) = at (split x among)

  shallow_by : HasNoRecursion d → (n : ℕ) (rest : List ℕ) → length rest ≤ n → (k : ℕ) → IsReached d k → Covers k rest → IsShallow d n k
  shallow_by flat zero rest few k reached cover = by (cover k reached)
    where
      by : Above k k ⊎ Among k rest → ⊥
      by (inl itself) = flat k reached itself
      by (inr among) = let found = without k rest among in let long = found.long in absurd (omega arith)
  shallow_by flat (suc n) rest few k reached cover = λ i j names. by i j names (cover k reached) (λ others less covers. shallow_by flat n others less j (reached_next k i j names reached) covers)
    where
      by : (i j : ℕ) → instance_number d i k ≡ Some j → Above k k ⊎ Among k rest → ((others : List ℕ) → length others ≤ n → Covers j others → IsShallow d n j) → IsShallow d n j
      by i j names (inl itself) next = absurd (flat k reached itself)
      by i j names (inr among) next =
          let found = without k rest among in
          let long = found.long in
          next found.rest (omega arith) (step_covers k i j rest found.rest names cover found.others)

  -- whether each chain of instances from a model has fewer than so many steps
  abbrev all_low : (ℕ → Bool) → List Inst → Bool
  all_low f [] = true
  all_low f (inst ∷ insts) = option_map_or f (number_named d inst.model) true && all_low f insts

  abbrev is_low : ℕ → ℕ → Bool
  is_low zero k = false
  is_low (suc n) k = all_low (is_low n) (insts_of d k)

  both_true : (a b : Bool) → (a && b) ≡ true → (a ≡ true) × (b ≡ true)
  both_true true b h = (refl, h)
  both_true false b h = absurd (let e : false ≡ true = h in cc)

  low_at : (f : ℕ → Bool) (insts : List Inst) → all_low f insts ≡ true → (i j : ℕ) → option_and_then (λ inst. number_named d inst.model) (slice_get insts i) ≡ Some j → f j ≡ true
  low_at f [] low i j names = absurd (let e : None ≡ Some j = names in cc)
  low_at f (inst ∷ insts) low zero j names = ap (λ (o : Option ℕ). option_map_or f o true) (sym names) ∙ (both_true (option_map_or f (number_named d inst.model) true) (all_low f insts) low).0
  low_at f (inst ∷ insts) low (suc i) j names = low_at f insts (both_true (option_map_or f (number_named d inst.model) true) (all_low f insts) low).1 i j names

  low_all : (f : ℕ → Bool) (insts : List Inst) → ((i j : ℕ) → option_and_then (λ inst. number_named d inst.model) (slice_get insts i) ≡ Some j → f j ≡ true) → all_low f insts ≡ true
  low_all f [] each = refl
  low_all f (inst ∷ insts) each = by (number_named d inst.model) (λ j names. each zero j names) (low_all f insts (λ i j names. each (suc i) j names))
    where
      by : (o : Option ℕ) → ((j : ℕ) → o ≡ Some j → f j ≡ true) → all_low f insts ≡ true → (option_map_or f o true && all_low f insts) ≡ true
      by None here rest = rest
      by (Some j) here rest = ap (λ (b : Bool). b && all_low f insts) (here j refl) ∙ rest

  shallow_low : (n k : ℕ) → IsShallow d n k → is_low n k ≡ true
  shallow_low zero k none = absurd none
  shallow_low (suc n) k subs = low_all (is_low n) (insts_of d k) (λ i j names. shallow_low n j (subs i j names))

  low_next : (n k : ℕ) → is_low n k ≡ true → is_low (suc n) k ≡ true
  low_next zero k low = absurd (let e : false ≡ true = low in cc)
  low_next (suc n) k low = low_all (is_low (suc n)) (insts_of d k) (λ i j names. low_next n j (low_at (is_low n) (insts_of d k) low i j names))

  -- the numbers whose chains get longer by one
  abbrev level : ℕ → List ℕ → List ℕ
  level n ks = filter (λ k. is_low (suc n) k && not (is_low n k)) ks

  -- the numbers by the lengths of their chains
  abbrev levels : ℕ → List ℕ → List ℕ
  levels zero ks = []
  levels (suc n) ks = levels n ks ++ level n ks

  low_levels : (n : ℕ) (ks : List ℕ) (k : ℕ) → Among k ks → is_low n k ≡ true → Among k (levels n ks)
  low_levels zero ks k among low = absurd (let e : false ≡ true = low in cc)
  low_levels (suc n) ks k among low = by (is_low n k) refl (low_levels n ks k among)
    where
      by : (b : Bool) → is_low n k ≡ b → (is_low n k ≡ true → Among k (levels n ks)) → Among k (levels n ks ++ level n ks)
      by true e next = among_left k (levels n ks) (level n ks) (next e)
      by false e next =
          let new : (is_low (suc n) k && not (is_low n k)) ≡ true = ap (λ (b : Bool). b && not (is_low n k)) low ∙ ap not e in
          among_right k (levels n ks) (level n ks) (among_filter (λ k. is_low (suc n) k && not (is_low n k)) k ks among new)

  levels_only : (n : ℕ) (ks : List ℕ) (k : ℕ) → Among k (levels n ks) → Among k ks
  levels_only zero ks k none = absurd none
  levels_only (suc n) ks k among = by (among_append k (levels n ks) (level n ks) among) (levels_only n ks k)
    where
      by : Among k (levels n ks) ⊎ Among k (level n ks) → (Among k (levels n ks) → Among k ks) → Among k ks
      by (inl before) next = next before
      by (inr here) next = (filter_among (λ k. is_low (suc n) k && not (is_low n k)) k ks here).0

  after_all : (earlier ys : List ℕ) → ((k : ℕ) → Among k ys → (i j : ℕ) → instance_number d i k ≡ Some j → Among j earlier) → StandsAfterItsModels d earlier ys
  after_all earlier [] each = tt
  after_all earlier (y ∷ ys) each = (each y (inl refl), after_all (y ∷ earlier) ys (λ k among i j names. inr (each k (inr among) i j names)))

  after_append : (earlier xs ys : List ℕ) → StandsAfterItsModels d earlier xs → ((k : ℕ) → Among k ys → (i j : ℕ) → instance_number d i k ≡ Some j → Among j earlier ⊎ Among j xs) → StandsAfterItsModels d earlier (xs ++ ys)
  after_append earlier [] ys after each = after_all earlier ys (λ k among i j names. first j (each k among i j names))
    where
      first : (j : ℕ) → Among j earlier ⊎ Among j [] → Among j earlier
      first j (inl among) = among
      first j (inr none) = absurd none
  after_append earlier (x ∷ xs) ys after each = (after.0, after_append (x ∷ earlier) xs ys after.1 (λ k among i j names. move j (each k among i j names)))
    where
      move : (j : ℕ) → Among j earlier ⊎ Among j (x ∷ xs) → Among j (x ∷ earlier) ⊎ Among j xs
      move j (inl among) = inl (inr among)
      move j (inr (inl same)) = inl (inl same)
      move j (inr (inr later)) = inr later

  levels_after : (n : ℕ) (ks : List ℕ) → ((k i j : ℕ) → Among k ks → instance_number d i k ≡ Some j → Among j ks) → StandsAfterItsModels d [] (levels n ks)
  levels_after zero ks closed = tt
  levels_after (suc n) ks closed = after_append [] (levels n ks) (level n ks) (levels_after n ks closed) (λ k among i j names. inr (below k among i j names))
    where
      below : (k : ℕ) → Among k (level n ks) → (i j : ℕ) → instance_number d i k ≡ Some j → Among j (levels n ks)
      below k among i j names =
          let kept = filter_among (λ k. is_low (suc n) k && not (is_low n k)) k ks among in
          let low = (both_true (is_low (suc n) k) (not (is_low n k)) kept.1).0 in
          low_levels n ks j (closed k i j kept.0 names) (low_at (is_low n) (insts_of d k) low i j names)

  filter_parts : (p q : ℕ → Bool) → ((x : ℕ) → p x ≡ true → q x ≡ true) → (xs : List ℕ) → length (filter p xs) + length (filter (λ x. q x && not (p x)) xs) ≡ length (filter q xs)
  filter_parts p q implies [] = refl
  filter_parts p q implies (x ∷ xs) = by (p x) (q x) (implies x) (filter_parts p q implies xs)
    where
      by : (a b : Bool) → (a ≡ true → b ≡ true) → length (filter p xs) + length (filter (λ x. q x && not (p x)) xs) ≡ length (filter q xs) → length (cond a (x ∷ filter p xs) (filter p xs)) + length (cond (b && not a) (x ∷ filter (λ x. q x && not (p x)) xs) (filter (λ x. q x && not (p x)) xs)) ≡ length (cond b (x ∷ filter q xs) (filter q xs))
      by true true h e = omega arith
      by true false h e = absurd (let f : false ≡ true = h refl in cc)
      by false true h e = omega arith
      by false false h e = e

  filter_short : (p : ℕ → Bool) (xs : List ℕ) → length (filter p xs) ≤ length xs
  filter_short p [] = omega arith
  filter_short p (x ∷ xs) = by (p x) (filter_short p xs)
    where
      by : (b : Bool) → length (filter p xs) ≤ length xs → length (cond b (x ∷ filter p xs) (filter p xs)) ≤ suc (length xs)
      by true h = omega arith
      by false h = omega arith

  none_low : (xs : List ℕ) → length (filter (is_low zero) xs) ≡ 0
  none_low [] = refl
  none_low (x ∷ xs) = none_low xs

  levels_long : (n : ℕ) (ks : List ℕ) → length (levels n ks) ≡ length (filter (is_low n) ks)
  levels_long zero ks = sym (none_low ks)
  levels_long (suc n) ks =
      length-append (levels n ks) (level n ks)
      ∙ ap (λ (m : ℕ). m + length (level n ks)) (levels_long n ks)
      ∙ filter_parts (is_low n) (is_low (suc n)) (λ k low. low_next n k low) ks

  ascending_short : (n least : ℕ) (ks : List ℕ) → Ascend least ks → ((k : ℕ) → Among k ks → k < n) → least ≤ n → least + length ks ≤ n
  ascending_short n least [] up below le = omega arith
  ascending_short n least (k ∷ ks) up below le =
      let room = below k (inl refl) in
      let first = up.0 in
      let rest = ascending_short n (k + 1) ks up.1 (λ j among. below j (inr among)) (omega arith) in
      omega arith

  pub model_order : IsWellFormed d → HasNoRecursion d → (ks : List ℕ) → AreReached d ks → (order : List ℕ) × IsModelOrder d order
  model_order formed flat ks are = (
    levels (length ks) ks,
    record {
      each = λ k reached. low_levels (length ks) ks k ((are.each k).1 reached) (shallow_low (length ks) k (shallow_by flat (length ks) ks (omega arith) k reached (λ x is. inr ((are.each x).1 is))));
      only = λ k among. (are.each k).0 (levels_only (length ks) ks k among);
      short =
          let long = levels_long (length ks) ks in
          let part = filter_short (is_low (length ks)) ks in
          let all = ascending_short (length d.models) 0 ks are.ascend (λ k among. reached_below d formed k ((are.each k).0 among)) (omega arith) in
          omega arith;
      after = levels_after (length ks) ks (λ k i j among names. (are.each j).1 (reached_next k i j names ((are.each k).0 among)));
    },
  )
