-- The numbers of the columns inside a place.
use Rattle.std.proofs.Common.{◌≡◌, ℕ, zero, suc, ◌+◌, ◌<◌, ◌≤◌, List, [], ◌∷◌, ◌++◌, take, Option, Some, None, slice_get, inl, inr, refl, sym, ◌∙◌, ap, arith}
use Rattle.std.specs.Option.{option_map_or}
use Rattle.std.specs.List.{enumerate_from}
use Rattle.std.proofs.lemmas.Option.{slice_get_within}
use Rattle.lid_base.specs.Lists.{Among}
use Rattle.lid_base.proofs.Lists.{flat_among, map_among, then_some}
use Rattle.lid_design.specs.declared.Design.{Design}
use Rattle.lid_design.specs.declared.Inst.{Inst}
use Rattle.lid_design.specs.Columns.{Column, column}
use Rattle.lid_design.specs.Models.{insts_of, number_named, instance_number, number_from, IsReached}
use Rattle.lid_design.specs.Elaboration.{Instance, instances_in, model_nets, columns_at, columns}
use Rattle.lid_design.specs.Loops.{IsInside}
use Rattle.lid_check_elab.specs.Numbers.{over_insts, size_of, offset_of, start_of, columns_in}
use Rattle.lid_check_drivers.specs.Judged.{IsJudged}
use Rattle.lid_check_elab.proofs.Located.{located}
use Rattle.lid_check_elab.proofs.Counting.{size_is, offset_next}

-- the places in a place have paths that lead into it
place_inside : (d : Design) (n : ℕ) (path : List ℕ) (k : ℕ) (p : Instance) → Among p (instances_in n d path k) → IsInside path p.path
place_inside d zero path k p (inl e) = ([], ap (λ (q : Instance). q.path) e)
place_inside d zero path k p (inr none) = absurd none
place_inside d (suc n) path k p (inl e) = ([], ap (λ (q : Instance). q.path) e)
place_inside d (suc n) path k p (inr among) =
    let found = flat_among (λ q. option_map_or (instances_in n d (q.0 ∷ path)) (number_named d q.1.model) []) p (enumerate_from 0 (insts_of d k)) among in
    by found.0.0 (number_named d found.0.1.model) found.2 (λ j. place_inside d n (found.0.0 ∷ path) j p)
  where
    push_append : (inner : List ℕ) (i : ℕ) → inner ++ i ∷ path ≡ (inner ++ i ∷ []) ++ path
    push_append [] i = refl
    push_append (x ∷ inner) i = ap (λ (xs : List ℕ). x ∷ xs) (push_append inner i)

    by : (i : ℕ) (o : Option ℕ) → Among p (option_map_or (instances_in n d (i ∷ path)) o []) → ((j : ℕ) → Among p (instances_in n d (i ∷ path) j) → IsInside (i ∷ path) p.path) → IsInside path p.path
    by i None none next = absurd none
    by i (Some j) here next = let deeper = next j here in (deeper.0 ++ i ∷ [], deeper.1 ∙ push_append deeper.0 i)

-- so do the columns in it
pub column_inside : (d : Design) (n : ℕ) (path : List ℕ) (k : ℕ) (c : Column) → Among c (columns_in n d path k) → IsInside path c.path
column_inside d n path k c among =
    let found = flat_among (columns_at d) c (instances_in n d path k) among in
    let net = map_among (column found.0.path) c (model_nets d found.0.model) found.2 in
    let inside = place_inside d n path k found.0 found.1 in
    (inside.0, ap (λ (x : Column). x.path) net.2 ∙ inside.1)

module _ (d : Design) (judged : IsJudged d) where
  -- an instance of a model ends where the model ends, or before
  offset_within : (k i j : ℕ) → IsReached d k → instance_number d i k ≡ Some j → offset_of d k i + size_of d j ≤ size_of d k
  offset_within k i j reached names =
      let next = offset_next d k i in
      let size : option_map_or (size_of d) (instance_number d i k) 0 ≡ size_of d j = ap (λ (o : Option ℕ). option_map_or (size_of d) o 0) names in
      let few = offset_few k (i + 1) reached in
      omega arith
    where
      over_some : (f : ℕ → ℕ) (insts : List Inst) (i : ℕ) → over_insts d f (take i insts) ≤ over_insts d f insts
      over_some f insts zero = omega arith
      over_some f [] (suc i) = omega arith
      over_some f (x ∷ insts) (suc i) = let e = over_some f insts i in omega arith

      offset_few : (k i : ℕ) → IsReached d k → offset_of d k i ≤ size_of d k
      offset_few k i reached = let whole = size_is d judged k reached in let e = over_some (size_of d) (insts_of d k) i in omega arith

  -- the columns of a place in a place are among those of that
  inside_within : (path : List ℕ) (k : ℕ) → number_from d d.root path ≡ Some k → (inner : List ℕ) (j : ℕ) → number_from d d.root (inner ++ path) ≡ Some j → (start_of d path ≤ start_of d (inner ++ path)) × (start_of d (inner ++ path) + size_of d j ≤ start_of d path + size_of d k)
  unfolding number_from start_of
  inside_within path k leads [] j there =
      let same : k ≡ j = (let e : Some k ≡ Some j = sym leads ∙ there in cc) in
      (omega arith, (let e = ap (size_of d) same in omega arith))
  inside_within path k leads (i ∷ inner) j there =
      let outer = then_some (number_from d d.root (inner ++ path)) (instance_number d i) j there in
      let before = inside_within path k leads inner outer.0 outer.1 in
      let first : start_of d (i ∷ (inner ++ path)) ≡ start_of d (inner ++ path) + offset_of d outer.0 i = ap (λ (o : Option ℕ). start_of d (inner ++ path) + option_map_or (λ k. offset_of d k i) o 0) outer.1 in
      let small = offset_within outer.0 i j ((inner ++ path), outer.1) outer.2 in
      let low = before.0 in
      let high = before.1 in
      (omega arith, omega arith)

  -- a column inside a place has a number of the place
  pub number_inside : (path : List ℕ) (k : ℕ) → number_from d d.root path ≡ Some k → (a : ℕ) (c : Column) → slice_get (columns d) a ≡ Some c → IsInside path c.path → (start_of d path ≤ a) × (a < start_of d path + size_of d k)
  number_inside path k leads a c here inside =
      let at = located d judged a c here in
      let place : number_from d d.root (inside.0 ++ path) ≡ Some at.model = ap (number_from d d.root) (sym inside.1) ∙ at.leads in
      let start : start_of d c.path ≡ start_of d (inside.0 ++ path) = ap (start_of d) inside.1 in
      let within = inside_within path k leads inside.0 at.model place in
      let whole = size_is d judged at.model (c.path, at.leads) in
      let net = slice_get_within (model_nets d at.model) at.net c.net at.here in
      let sum = at.sum in
      let low = within.0 in
      let high = within.1 in
      (omega arith, omega arith)
