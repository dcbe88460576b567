-- Sizes of models and offsets of their instances.
use Rattle.std.proofs.Common.{◌≡◌, ◌≢◌, ◌⊎◌, ℕ, zero, suc, ◌+◌, ◌<◌, ◌≤◌, true, false, List, [], ◌∷◌, ◌++◌, length, take, set, replicate, get_or, eqb, Option, Some, None, inl, inr, sym, ◌∙◌, ap, subst, arith}
use Rattle.std.specs.Option.{option_map_or}
use Rattle.std.proofs.lemmas.List.{take_all, take_more, get_or-set_same, get_or-set_other, length-set}
use Rattle.std.proofs.lemmas.Bool.Decides.{eqb_tells}
use Rattle.lid_base.specs.Lists.{Among}
use Rattle.lid_base.proofs.Lists.{among_left, among_right, last_case}
use Rattle.lid_design.specs.declared.Design.{Design}
use Rattle.lid_design.specs.declared.Inst.{Inst}
use Rattle.lid_design.specs.Models.{insts_of, instance_number, IsReached}
use Rattle.lid_design.specs.Elaboration.{model_nets}
use Rattle.lid_check_hierarchy.specs.Surveys.{StandsAfterItsModels, IsModelOrder}
use Rattle.lid_check_elab.specs.Numbers.{over_insts, size_of, offset_of}
use Rattle.lid_check_elab.specs.Parts.{AreSizes, HasSizes}
use Rattle.lid_check_drivers.specs.Judged.{IsJudged}
use Rattle.lid_check_drivers.proofs.Limits.{few_columns}
use Rattle.lid_check_drivers.proofs.Shallow.{shallow_of}
use Rattle.lid_check_elab.proofs.Numbering.{within}
use Rattle.lid_check_elab.proofs.Stacking.{size_sum, over_step}
use Rattle.lid_check_hierarchy.proofs.Walks.{reached_below}

over_some : (d : Design) (f : ℕ → ℕ) (insts : List Inst) (i : ℕ) → over_insts d f (take i insts) ≤ over_insts d f insts
over_some d f insts zero = omega arith
over_some d f [] (suc i) = omega arith
over_some d f (x ∷ insts) (suc i) = let e = over_some d f insts i in omega arith

-- the offset of the next instance
pub offset_next : (d : Design) (k i : ℕ) → offset_of d k (i + 1) ≡ offset_of d k i + option_map_or (size_of d) (instance_number d i k) 0
offset_next d k i =
    let next : i + 1 ≡ suc i = omega arith in
    let step = over_step d (size_of d) (insts_of d k) i in
    ap (λ (n : ℕ). length (model_nets d k) + over_insts d (size_of d) (take n (insts_of d k))) next ∙ omega arith

-- an offset and the size of its instance
pub offset_after : (d : Design) (k i offset size : ℕ) → offset ≡ offset_of d k i → size ≡ option_map_or (size_of d) (instance_number d i k) 0 → offset + size ≡ offset_of d k (i + 1)
offset_after d k i offset size here one = let next = offset_next d k i in omega arith

module _ (d : Design) (judged : IsJudged d) (k : ℕ) (reached : IsReached d k) where
  pub size_is : size_of d k ≡ length (model_nets d k) + over_insts d (size_of d) (insts_of d k)
  size_is = size_sum d k (shallow_of d judged k reached)

  pub size_small : size_of d k ≤ 1048576
  size_small = let w = within d judged reached.0 k reached.1 in let f = few_columns d judged in omega arith

  pub nets_small : length (model_nets d k) ≤ 1048576
  nets_small = let a = size_is in let b = size_small in omega arith

  pub offset_small : (i : ℕ) → offset_of d k i ≤ 1048576
  offset_small i = let a = size_is in let b = size_small in let e = over_some d (size_of d) (insts_of d k) i in omega arith

  -- the offset past the last instance is the size
  pub offset_end : (i : ℕ) → length (insts_of d k) ≤ i → offset_of d k i ≡ size_of d k
  offset_end i past = ap (λ (is : List Inst). length (model_nets d k) + over_insts d (size_of d) is) (take_all i (insts_of d k) past) ∙ sym size_is

  pub model_below : k < length d.models
  model_below = reached_below d judged.formed k reached

-- a size that is there is that of an item of the list
pub get_within : (xs : List (Option ℕ)) (k n : ℕ) → get_or xs k None ≡ Some n → k < length xs
get_within [] k n h = absurd (let e : None ≡ Some n = h in cc)
get_within (x ∷ xs) zero n h = omega arith
get_within (x ∷ xs) (suc k) n h = let e = get_within xs k n h in omega arith

abbrev no_size : Option ℕ
no_size = None

none_there : (n k m : ℕ) → get_or (replicate n no_size) k None ≡ Some m → ⊥
none_there zero k m h = absurd (let e : None ≡ Some m = h in cc)
none_there (suc n) zero m h = absurd (let e : None ≡ Some m = h in cc)
none_there (suc n) (suc k) m h = none_there n k m h

-- the model of an instance stands before the model that has it
earlier : (d : Design) (found order : List ℕ) (i : ℕ) → i < length order → StandsAfterItsModels d found order → (inst j : ℕ) → instance_number d inst (get_or order i 0) ≡ Some j → Among j found ⊎ Among j (take i order)
earlier d found [] i h after inst j names = absurd (omega arith)
earlier d found (x ∷ order) zero h after inst j names = inl (after.0 inst j names)
earlier d found (x ∷ order) (suc i) h after inst j names = by (earlier d (x ∷ found) order i (omega arith) after.1 inst j names)
  where
    by : Among j (x ∷ found) ⊎ Among j (take i order) → Among j found ⊎ Among j (take (suc i) (x ∷ order))
    by (inl (inl same)) = inr (inl same)
    by (inl (inr among)) = inl among
    by (inr among) = inr (inr among)

module _ (d : Design) where
  module _ (order : List ℕ) (ordered : IsModelOrder d order) (i : ℕ) (h : i < length order) (sizes : List (Option ℕ)) (have : AreSizes d (λ k. Among k (take i order)) sizes) where
    -- the models of the next model's instances have their sizes
    pub sizes_known : HasSizes d (get_or order i 0) sizes
    sizes_known inst j names = by (earlier d [] order i h ordered.after inst j names)
      where
        by : ⊥ ⊎ Among j (take i order) → get_or sizes j None ≡ Some (size_of d j)
        by (inl none) = absurd none
        by (inr among) = have.each j among

    -- the next model has its size too
    pub sizes_next : (new : List (Option ℕ)) → get_or order i 0 < length d.models → new ≡ set sizes (get_or order i 0) (Some (size_of d (get_or order i 0))) → AreSizes d (λ k. Among k (take (i + 1) order)) new
    sizes_next new below is = record {
      long = ap length is ∙ length-set sizes at (Some (size_of d at)) ∙ have.long;
      each = λ k among. last_case k (take i order) at (subst (Among k) (take_more order i 0 h) among) (λ before. older k before (eqb_tells k at)) (here k);
      only = λ k n there. subst (Among k) (sym (take_more order i 0 h)) (known k n there (eqb_tells k at));
    }
      where
        at : ℕ
        at = get_or order i 0

        new_here : get_or new at None ≡ Some (size_of d at)
        new_here = ap (λ (xs : List (Option ℕ)). get_or xs at None) is ∙ get_or-set_same sizes at (Some (size_of d at)) None (let l = have.long in omega arith)

        new_other : (k : ℕ) → k ≢ at → get_or new k None ≡ get_or sizes k None
        new_other k other = ap (λ (xs : List (Option ℕ)). get_or xs k None) is ∙ get_or-set_other sizes at k (Some (size_of d at)) None other

        here : (k : ℕ) → k ≡ at → get_or new k None ≡ Some (size_of d k)
        here k same = subst (λ (n : ℕ). get_or new n None ≡ Some (size_of d n)) (sym same) new_here

        older : (k : ℕ) → Among k (take i order) → ((eqb k at ≡ true) × (k ≡ at)) ⊎ ((eqb k at ≡ false) × (k ≢ at)) → get_or new k None ≡ Some (size_of d k)
        older k before (inl same) = here k same.1
        older k before (inr other) = new_other k other.1 ∙ have.each k before

        known : (k n : ℕ) → get_or new k None ≡ Some n → ((eqb k at ≡ true) × (k ≡ at)) ⊎ ((eqb k at ≡ false) × (k ≢ at)) → Among k (take i order ++ at ∷ [])
        known k n there (inl same) = among_right k (take i order) (at ∷ []) (inl same.1)
        known k n there (inr other) = among_left k (take i order) (at ∷ []) (have.only k n (sym (new_other k other.1) ∙ there))

  -- all models of the order have theirs
  pub sizes_end : (order : List ℕ) → IsModelOrder d order → (n : ℕ) → length order ≤ n → (sizes : List (Option ℕ)) → AreSizes d (λ k. Among k (take n order)) sizes → AreSizes d (IsReached d) sizes
  sizes_end order ordered n past sizes have = record {
    long = have.long;
    each = λ k reached. have.each k (subst (Among k) (sym (take_all n order past)) (ordered.each k reached));
    only = λ k m there. ordered.only k (subst (Among k) (take_all n order past) (have.only k m there));
  }
