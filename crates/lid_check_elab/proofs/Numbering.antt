-- Where the columns of a place stand among all columns.
use Rattle.std.proofs.Common.{◌≡◌, ℕ, zero, suc, ◌+◌, List, [], ◌∷◌, ◌++◌, length, take, Option, Some, None, option_and_then, option_map, slice_get, refl, sym, ◌∙◌, ap, subst, arith, ◌≤◌, append_assoc, length-append, add-zero, zero-add}
use Rattle.std.specs.Option.{option_map_or}
use Rattle.std.specs.List.{flat_map, enumerate_from}
use Rattle.std.proofs.lemmas.List.{length-map, append-nil}
use Rattle.std.proofs.lemmas.List.Concat.{flat_map-append}
use Rattle.std.proofs.lemmas.Option.{slice_get-map}
use Rattle.lid_base.proofs.Lists.{then_some}
use Rattle.lid_design.specs.declared.Design.{Design}
use Rattle.lid_design.specs.declared.Inst.{Inst}
use Rattle.lid_design.specs.Columns.{Column, column}
use Rattle.lid_design.specs.Models.{insts_of, number_named, instance_number, number_from}
use Rattle.lid_design.specs.Elaboration.{Instance, instance, instances_in, instances, model_nets, columns_at, columns}
use Rattle.lid_check_elab.specs.Numbers.{over_insts, size_within, size_of, offset_of, start_of, columns_in, StandsInList}
use Rattle.lid_check_elab.specs.Elaborations.{StartsAt}
use Rattle.lid_check_drivers.specs.Judged.{IsJudged}
use Rattle.lid_check_drivers.proofs.Shallow.{IsShallow, shallow_of}
use Rattle.lid_base.proofs.Places.{get_left, get_right}

-- a part of a part
pub stands_left : {A : Type 0} (whole : List A) (start : ℕ) (xs ys : List A) → StandsInList whole start (xs ++ ys) → StandsInList whole start xs
stands_left whole start xs ys at = record {
  before = at.before;
  after = ys ++ at.after;
  parts = at.parts ∙ ap (λ zs. at.before ++ zs) (append_assoc xs ys at.after);
  long = at.long;
}

pub stands_right : {A : Type 0} (whole : List A) (start : ℕ) (xs ys : List A) → StandsInList whole start (xs ++ ys) → StandsInList whole (start + length xs) ys
stands_right whole start xs ys at = record {
  before = at.before ++ xs;
  after = at.after;
  parts = at.parts ∙ ap (λ zs. at.before ++ zs) (append_assoc xs ys at.after) ∙ sym (append_assoc at.before xs (ys ++ at.after));
  long = length-append at.before xs ∙ ap (λ (n : ℕ). n + length xs) at.long;
}

pub stands_get : {A : Type 0} (whole : List A) (start : ℕ) (part : List A) → StandsInList whole start part → (i : ℕ) (x : A) → slice_get part i ≡ Some x → slice_get whole (start + i) ≡ Some x
stands_get whole start part at i x here =
    ap (λ (n : ℕ). slice_get whole (n + i)) (sym at.long)
    ∙ ap (λ xs. slice_get xs (length at.before + i)) at.parts
    ∙ get_right at.before (part ++ at.after) i
    ∙ get_left part at.after i x here

module _ (d : Design) where
  -- the columns of an instance and of the places in it
  abbrev pub block : ℕ → List ℕ → ℕ × Inst → List Column
  block n path q = option_map_or (columns_in n d (q.0 ∷ path)) (number_named d q.1.model) []

  pub columns_step : (n : ℕ) (path : List ℕ) (k : ℕ) → columns_in (suc n) d path k ≡ columns_at d (instance path k) ++ flat_map (block n path) (enumerate_from 0 (insts_of d k))
  columns_step n path k = ap (λ (cs : List Column). columns_at d (instance path k) ++ cs) (inner (enumerate_from 0 (insts_of d k)))
    where
      at : (i : ℕ) (o : Option ℕ) → flat_map (columns_at d) (option_map_or (instances_in n d (i ∷ path)) o []) ≡ option_map_or (columns_in n d (i ∷ path)) o []
      at i None = refl
      at i (Some j) = refl

      inner : (qs : List (ℕ × Inst)) → flat_map (columns_at d) (flat_map (λ p. option_map_or (instances_in n d (p.0 ∷ path)) (number_named d p.1.model) []) qs) ≡ flat_map (block n path) qs
      inner [] = refl
      inner (q ∷ qs) =
          let rest : List Instance = flat_map (λ p. option_map_or (instances_in n d (p.0 ∷ path)) (number_named d p.1.model) []) qs in
          flat_map-append (columns_at d) (option_map_or (instances_in n d (q.0 ∷ path)) (number_named d q.1.model) []) rest
          ∙ ap (λ (cs : List Column). cs ++ flat_map (columns_at d) rest) (at q.0 (number_named d q.1.model))
          ∙ ap (λ (cs : List Column). block n path q ++ cs) (inner qs)

  pub at_length : (path : List ℕ) (k : ℕ) → length (columns_at d (instance path k)) ≡ length (model_nets d k)
  at_length path k = length-map (model_nets d k) (column path)

  blocks_length : (n : ℕ) (path : List ℕ) → ((i j : ℕ) → length (columns_in n d (i ∷ path) j) ≡ size_within n d j) → (i : ℕ) (insts : List Inst) → length (flat_map (block n path) (enumerate_from i insts)) ≡ over_insts d (size_within n d) insts
  blocks_length n path each i [] = refl
  blocks_length n path each i (inst ∷ insts) =
      let rest = flat_map (block n path) (enumerate_from (i + 1) insts) in
      length-append (block n path (i, inst)) rest
      ∙ ap (λ (m : ℕ). m + length rest) (one (number_named d inst.model))
      ∙ ap (λ (m : ℕ). option_map_or (size_within n d) (number_named d inst.model) 0 + m) (blocks_length n path each (i + 1) insts)
    where
      one : (o : Option ℕ) → length (option_map_or (columns_in n d (i ∷ path)) o []) ≡ option_map_or (size_within n d) o 0
      one None = refl
      one (Some j) = each i j

  pub columns_length : (n : ℕ) (path : List ℕ) (k : ℕ) → length (columns_in n d path k) ≡ size_within n d k
  columns_length zero path k = ap length (append-nil (columns_at d (instance path k))) ∙ at_length path k
  columns_length (suc n) path k =
      let subs = flat_map (block n path) (enumerate_from 0 (insts_of d k)) in
      ap length (columns_step n path k)
      ∙ length-append (columns_at d (instance path k)) subs
      ∙ ap (λ (m : ℕ). m + length subs) (at_length path k)
      ∙ ap (λ (m : ℕ). length (model_nets d k) + m) (blocks_length n path (λ i j. columns_length n (i ∷ path) j) 0 (insts_of d k))

  blocks_same : (n : ℕ) (path : List ℕ) → ((i j : ℕ) → IsShallow d n j → columns_in n d (i ∷ path) j ≡ columns_in (suc n) d (i ∷ path) j) → (i : ℕ) (insts : List Inst) → ((m j : ℕ) → option_and_then (λ inst. number_named d inst.model) (slice_get insts m) ≡ Some j → IsShallow d n j) → flat_map (block n path) (enumerate_from i insts) ≡ flat_map (block (suc n) path) (enumerate_from i insts)
  blocks_same n path same i [] shallow = refl
  blocks_same n path same i (inst ∷ insts) shallow =
      ap (λ (cs : List Column). cs ++ flat_map (block n path) (enumerate_from (i + 1) insts)) (one (number_named d inst.model) (λ j names. shallow zero j names))
      ∙ ap (λ (cs : List Column). block (suc n) path (i, inst) ++ cs) (blocks_same n path same (i + 1) insts (λ m j names. shallow (suc m) j names))
    where
      one : (o : Option ℕ) → ((j : ℕ) → o ≡ Some j → IsShallow d n j) → option_map_or (columns_in n d (i ∷ path)) o [] ≡ option_map_or (columns_in (suc n) d (i ∷ path)) o []
      one None here = refl
      one (Some j) here = same i j (here j refl)

  -- more steps give no more columns where no chain of instances is as long
  pub columns_same : (n : ℕ) (path : List ℕ) (k : ℕ) → IsShallow d n k → columns_in n d path k ≡ columns_in (suc n) d path k
  columns_same zero path k none = absurd none
  columns_same (suc n) path k shallow =
      columns_step n path k
      ∙ ap (λ (cs : List Column). columns_at d (instance path k) ++ cs) (blocks_same n path (λ i j sub. columns_same n (i ∷ path) j sub) 0 (insts_of d k) shallow)
      ∙ sym (columns_step (suc n) path k)

  pub size_same : (n k : ℕ) → IsShallow d n k → size_within n d k ≡ size_within (suc n) d k
  size_same n k shallow = sym (columns_length n [] k) ∙ ap length (columns_same n [] k shallow) ∙ columns_length (suc n) [] k

  pub over_same : (f g : ℕ → ℕ) (insts : List Inst) → ((m j : ℕ) → option_and_then (λ inst. number_named d inst.model) (slice_get insts m) ≡ Some j → f j ≡ g j) → over_insts d f insts ≡ over_insts d g insts
  over_same f g [] same = refl
  over_same f g (inst ∷ insts) same =
      let head = one (number_named d inst.model) (λ j names. same zero j names) in
      let tail = over_same f g insts (λ m j names. same (suc m) j names) in
      cc
    where
      one : (o : Option ℕ) → ((j : ℕ) → o ≡ Some j → f j ≡ g j) → option_map_or f o 0 ≡ option_map_or g o 0
      one None here = refl
      one (Some j) here = here j refl

  inst_stands : (n : ℕ) (path : List ℕ) (whole : List Column) (start first : ℕ) (insts : List Inst) → StandsInList whole start (flat_map (block n path) (enumerate_from first insts)) → (i at j : ℕ) (inst : Inst) → first + i ≡ at → slice_get insts i ≡ Some inst → number_named d inst.model ≡ Some j → StandsInList whole (start + over_insts d (size_within n d) (take i insts)) (columns_in n d (at ∷ path) j)
  inst_stands n path whole start first [] stands i at j inst sum here names = absurd (let e : None ≡ Some inst = here in cc)
  inst_stands n path whole start first (x ∷ insts) stands zero at j inst sum here names =
      let same : x ≡ inst = (let e : Some x ≡ Some inst = here in cc) in
      let left = stands_left whole start (block n path (first, x)) (flat_map (block n path) (enumerate_from (first + 1) insts)) stands in
      let number : number_named d x.model ≡ Some j = ap (λ (y : Inst). number_named d y.model) same ∙ names in
      let at_first : first ≡ at = omega arith in
      let found : StandsInList whole start (columns_in n d (first ∷ path) j) = subst (λ (o : Option ℕ). StandsInList whole start (option_map_or (columns_in n d (first ∷ path)) o [])) number left in
      subst (λ (m : ℕ). StandsInList whole m (columns_in n d (at ∷ path) j)) (sym (add-zero start)) (subst (λ (m : ℕ). StandsInList whole start (columns_in n d (m ∷ path) j)) at_first found)
  inst_stands n path whole start first (x ∷ insts) stands (suc i) at j inst sum here names =
      let right = stands_right whole start (block n path (first, x)) (flat_map (block n path) (enumerate_from (first + 1) insts)) stands in
      let later = inst_stands n path whole (start + length (block n path (first, x))) (first + 1) insts right i at j inst (omega arith) here names in
      let size = option_map_or (size_within n d) (number_named d x.model) 0 in
      let rest = over_insts d (size_within n d) (take i insts) in
      let sums : (start + length (block n path (first, x))) + rest ≡ start + (size + rest) = (let one = size-of (number_named d x.model) in omega arith) in
      subst (λ (m : ℕ). StandsInList whole m (columns_in n d (at ∷ path) j)) sums later
    where
      size-of : (o : Option ℕ) → length (option_map_or (columns_in n d (first ∷ path)) o []) ≡ option_map_or (size_within n d) o 0
      size-of None = refl
      size-of (Some k) = columns_length n (first ∷ path) k

  pub take_get : (i m j : ℕ) (insts : List Inst) → option_and_then (λ inst. number_named d inst.model) (slice_get (take i insts) m) ≡ Some j → option_and_then (λ inst. number_named d inst.model) (slice_get insts m) ≡ Some j
  take_get zero m j insts names = absurd (let e : None ≡ Some j = names in cc)
  take_get (suc i) m j [] names = absurd (let e : None ≡ Some j = names in cc)
  take_get (suc i) zero j (x ∷ insts) names = names
  take_get (suc i) (suc m) j (x ∷ insts) names = take_get i m j insts names

  module _ (judged : IsJudged d) where
    abbrev Stands : List ℕ → ℕ → Type 0
    Stands path k = StandsInList (columns d) (start_of d path) (columns_in (length d.models) d path k)

    -- the columns of an instance, by those of the model around it
    sub_stands : (path : List ℕ) (k i j : ℕ) → number_from d d.root path ≡ Some k → instance_number d i k ≡ Some j → Stands path k → Stands (i ∷ path) j
    unfolding size_of start_of
    sub_stands path k i j leads names stands = by (length d.models) refl
      where
        by : (n : ℕ) → length d.models ≡ n → Stands (i ∷ path) j
        by zero e = absurd (subst (λ (n : ℕ). IsShallow d n k) e (shallow_of d judged k (path, leads)))
        by (suc n) e =
            let deep : IsShallow d (suc n) k = subst (λ (n : ℕ). IsShallow d n k) e (shallow_of d judged k (path, leads)) in
            let found = then_some (slice_get (insts_of d k) i) (λ inst. number_named d inst.model) j names in
            let around : StandsInList (columns d) (start_of d path) (columns_at d (instance path k) ++ flat_map (block n path) (enumerate_from 0 (insts_of d k))) =
            subst (λ (cs : List Column). StandsInList (columns d) (start_of d path) cs) (ap (λ (m : ℕ). columns_in m d path k) e ∙ columns_step n path k) stands in
            let right = stands_right (columns d) (start_of d path) (columns_at d (instance path k)) (flat_map (block n path) (enumerate_from 0 (insts_of d k))) around in
            let inner = inst_stands n path (columns d) (start_of d path + length (columns_at d (instance path k))) 0 (insts_of d k) right i i j found.0 (zero-add i) found.1 found.2 in
            let sizes : over_insts d (size_within n d) (take i (insts_of d k)) ≡ over_insts d (size_within (length d.models) d) (take i (insts_of d k)) =
            over_same (size_within n d) (size_within (length d.models) d) (take i (insts_of d k)) (λ m b named. size_same n b (deep m b (take_get i m b (insts_of d k) named)) ∙ ap (λ (l : ℕ). size_within l d b) (sym e)) in
            let first : start_of d (i ∷ path) ≡ start_of d path + offset_of d k i = ap (λ (o : Option ℕ). start_of d path + option_map_or (λ k. offset_of d k i) o 0) leads in
            let start : (start_of d path + length (columns_at d (instance path k))) + over_insts d (size_within n d) (take i (insts_of d k)) ≡ start_of d (i ∷ path) =
            (let long = at_length path k in omega arith) in
            let whole : columns_in n d (i ∷ path) j ≡ columns_in (length d.models) d (i ∷ path) j =
            columns_same n (i ∷ path) j (deep i j names) ∙ ap (λ (m : ℕ). columns_in m d (i ∷ path) j) (sym e) in
            subst (λ (m : ℕ). StandsInList (columns d) m (columns_in (length d.models) d (i ∷ path) j)) start
            (subst (λ (cs : List Column). StandsInList (columns d) ((start_of d path + length (columns_at d (instance path k))) + over_insts d (size_within n d) (take i (insts_of d k))) cs) whole inner)

    pub numbering : (path : List ℕ) (k : ℕ) → number_from d d.root path ≡ Some k → Stands path k
    unfolding number_from start_of columns instances
    numbering [] k leads =
        let root : d.root ≡ k = (let e : Some d.root ≡ Some k = leads in cc) in
        subst (Stands []) root (record { before = []; after = []; parts = sym (append-nil (columns d)); long = refl })
    numbering (i ∷ path) k leads =
        let parts = then_some (number_from d d.root path) (instance_number d i) k leads in
        sub_stands path parts.0 i k parts.1 parts.2 (numbering path parts.0 parts.1)

    -- the columns of the model at a path stand one after the other from its start on
    pub starts_at : (path : List ℕ) → StartsAt d path (start_of d path)
    starts_at path k j net leads here = by (length d.models) refl
      where
        column-here : slice_get (columns_at d (instance path k)) j ≡ Some (column path net)
        column-here = slice_get-map (column path) (model_nets d k) j ∙ ap (option_map (column path)) here

        by : (n : ℕ) → length d.models ≡ n → slice_get (columns d) (start_of d path + j) ≡ Some (column path net)
        by zero e = absurd (subst (λ (n : ℕ). IsShallow d n k) e (shallow_of d judged k (path, leads)))
        by (suc n) e =
            let around = subst (λ (cs : List Column). StandsInList (columns d) (start_of d path) cs) (ap (λ (m : ℕ). columns_in m d path k) e ∙ columns_step n path k) (numbering path k leads) in
            let own = stands_left (columns d) (start_of d path) (columns_at d (instance path k)) (flat_map (block n path) (enumerate_from 0 (insts_of d k))) around in
            stands_get (columns d) (start_of d path) (columns_at d (instance path k)) own j (column path net) column-here

    -- the columns of a place and of the places in it are among all
    pub within : (path : List ℕ) (k : ℕ) → number_from d d.root path ≡ Some k → start_of d path + size_of d k ≤ length (columns d)
    unfolding size_of
    within path k leads =
        let stands = numbering path k leads in
        let part = columns_in (length d.models) d path k in
        let size = columns_length (length d.models) path k in
        let whole : length (columns d) ≡ length stands.before + (length part + length stands.after) =
        ap length stands.parts ∙ length-append stands.before (part ++ stands.after) ∙ ap (λ (n : ℕ). length stands.before + n) (length-append part stands.after) in
        let first = stands.long in
        omega arith
