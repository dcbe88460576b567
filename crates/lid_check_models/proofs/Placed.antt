-- What is counted over the instances of a design is what the recurrence on its models gives.
use Rattle.std.specs.Option.{option_map_or}
use Rattle.lid_design.specs.Elaboration.{instance, Instance, instances_in, instances, greatest, depth, over_instances}
use Rattle.lid_check_models.specs.declared.counts.Measure.TheVariants.{Depth}
use Rattle.std.proofs.Common.{add-zero, zero-add, ◌≡◌, ℕ, zero, suc, ◌+◌, max, List, [], ◌∷◌, ◌++◌, length, map, flat_map, sum_by, Option, Some, None, refl, sym, ◌∙◌, ap, arith}
use Rattle.std.specs.List.{enumerate_from}
use Rattle.std.proofs.lemmas.List.{map-append}
use Rattle.std.proofs.lemmas.List.Sums.{sum_by-append, sum_by-cons}
use Rattle.lid_design.specs.declared.Design.{Design}
use Rattle.lid_design.specs.declared.Inst.{Inst}
use Rattle.lid_design.specs.Models.{number_named, insts_of}
use Rattle.lid_check_models.specs.declared.counts.Measure.{Measure}
use Rattle.lid_check_models.specs.Counts.{own, with_instance, with_insts, count_by_subs, count_within, count_of, count_at_root}

-- the instances in one
abbrev pub inside : ℕ → Design → List ℕ → ℕ × Inst → List Instance
inside n d path p = option_map_or (instances_in n d (p.0 ∷ path)) (number_named d p.1.model) []

module _ (what : Measure) (d : Design) where
  abbrev pub Sums : Type 0
  Sums = (x a : ℕ) → with_instance what x a ≡ x + a

  abbrev pub SumsOver : ℕ → Type 0
  SumsOver n = (path : List ℕ) (k : ℕ) → sum_by (λ p. own what d p.model) (instances_in n d path k) ≡ count_within n what d k

  sum_insts : Sums → (n : ℕ) → SumsOver n → (path : List ℕ) (insts : List Inst) (i acc : ℕ) → acc + sum_by (λ p. own what d p.model) (flat_map (inside n d path) (enumerate_from i insts)) ≡ with_insts what d (count_within n what d) acc insts
  sum_insts sums n later path [] i acc = add-zero acc
  sum_insts sums n later path (inst ∷ insts) i acc = by (number_named d inst.model) (sum_insts sums n later path insts (i + 1))
    where
      f : Instance → ℕ
      f p = own what d p.model

      rest : List Instance
      rest = flat_map (inside n d path) (enumerate_from (i + 1) insts)

      counts : ℕ → ℕ
      counts = count_within n what d

      by : (o : Option ℕ) → ((acc : ℕ) → acc + sum_by f rest ≡ with_insts what d counts acc insts) → acc + sum_by f (option_map_or (instances_in n d (i ∷ path)) o [] ++ rest) ≡ with_insts what d counts (option_map_or (λ j. with_instance what acc (counts j)) o acc) insts
      by None next = next acc
      by (Some j) next =
          let split : sum_by f (instances_in n d (i ∷ path) j ++ rest) ≡ sum_by f (instances_in n d (i ∷ path) j) + sum_by f rest = sum_by-append f (instances_in n d (i ∷ path) j) rest in
          let sub : sum_by f (instances_in n d (i ∷ path) j) ≡ counts j = later (i ∷ path) j in
          let sum : acc + sum_by f (instances_in n d (i ∷ path) j ++ rest) ≡ with_instance what acc (counts j) + sum_by f rest = (let e = sums acc (counts j) in omega arith) in
          sum ∙ next (with_instance what acc (counts j))

  pub sum_instances : Sums → (n : ℕ) → SumsOver n
  unfolding count_by_subs
  sum_instances sums zero path k = zero-add (own what d k)
  sum_instances sums (suc n) path k =
      sum_by-cons (λ p. own what d p.model) (instance path k) (flat_map (inside n d path) (enumerate_from 0 (insts_of d k)))
      ∙ sum_insts sums n (sum_instances sums n) path (insts_of d k) 0 (own what d k)

  -- the count of a model, over the model and all instances in it by all paths
  pub sum_of : Sums → (k : ℕ) → sum_by (λ p. own what d p.model) (instances_in (length d.models) d [] k) ≡ count_of what d k
  unfolding count_of
  sum_of sums = sum_instances sums (length d.models) []

  pub sum_is : Sums → over_instances (own what) d ≡ count_at_root what d
  unfolding instances count_at_root
  sum_is sums = sum_of sums d.root

-- all that is counted but the depth is added
pub counts_sum : (what : Measure) (d : Design) (k : ℕ) → (what ≡ Depth → ⊥) → count_of what d k ≡ sum_by (λ p. own what d p.model) (instances_in (length d.models) d [] k)
counts_sum Depth d k other = absurd (other refl)
counts_sum _ d k other = sym (sum_of _ d (λ x a. refl) k)

greatest_append : (xs ys : List ℕ) → greatest (xs ++ ys) ≡ max (greatest xs) (greatest ys)
greatest_append [] ys = omega arith
greatest_append (x ∷ xs) ys = let e = greatest_append xs ys in omega arith

module _ (d : Design) where
  abbrev pub DepthOver : ℕ → Type 0
  DepthOver n = (path : List ℕ) (k : ℕ) → greatest (map (λ p. length p.path) (instances_in n d path k)) ≡ length path + count_within n Depth d k

  depth_insts : (n : ℕ) → DepthOver n → (path : List ℕ) (insts : List Inst) (i acc : ℕ) → max (length path + acc) (greatest (map (λ p. length p.path) (flat_map (inside n d path) (enumerate_from i insts)))) ≡ length path + with_insts Depth d (count_within n Depth d) acc insts
  depth_insts n later path [] i acc = omega arith
  depth_insts n later path (inst ∷ insts) i acc = by (number_named d inst.model) (depth_insts n later path insts (i + 1))
    where
      f : Instance → ℕ
      f = λ p. length p.path

      rest : List Instance
      rest = flat_map (inside n d path) (enumerate_from (i + 1) insts)

      counts : ℕ → ℕ
      counts = count_within n Depth d

      by : (o : Option ℕ) → ((acc : ℕ) → max (length path + acc) (greatest (map f rest)) ≡ length path + with_insts Depth d counts acc insts) → max (length path + acc) (greatest (map f (option_map_or (instances_in n d (i ∷ path)) o [] ++ rest))) ≡ length path + with_insts Depth d counts (option_map_or (λ j. max acc (counts j + 1)) o acc) insts
      by None next = next acc
      by (Some j) next =
          let split : greatest (map f (instances_in n d (i ∷ path) j ++ rest)) ≡ max (greatest (map f (instances_in n d (i ∷ path) j))) (greatest (map f rest)) = ap greatest (map-append f (instances_in n d (i ∷ path) j) rest) ∙ greatest_append (map f (instances_in n d (i ∷ path) j)) (map f rest) in
          let sub : greatest (map f (instances_in n d (i ∷ path) j)) ≡ suc (length path) + counts j = later (i ∷ path) j in
          let deep : max (length path + acc) (greatest (map f (instances_in n d (i ∷ path) j ++ rest))) ≡ max (length path + max acc (counts j + 1)) (greatest (map f rest)) = omega arith in
          deep ∙ next (max acc (counts j + 1))

  pub depth_instances : (n : ℕ) → DepthOver n
  unfolding count_by_subs
  depth_instances zero path k = omega arith
  depth_instances (suc n) path k =
      let first : length path ≡ length path + 0 = sym (add-zero (length path)) in
      ap (λ (n' : ℕ). max n' (greatest (map (λ p. length p.path) (flat_map (inside n d path) (enumerate_from 0 (insts_of d k)))))) first
      ∙ depth_insts n (depth_instances n) path (insts_of d k) 0 0

  pub depth_is : depth d ≡ count_at_root Depth d
  unfolding depth instances count_at_root count_of
  depth_is = depth_instances (length d.models) [] d.root ∙ zero-add (count_within (length d.models) Depth d d.root)
