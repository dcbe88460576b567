-- The places that are still to be worked through.
use Rattle.std.proofs.Common.{◌≡◌, ℕ, zero, suc, ◌+◌, ◌<◌, ◌^◌, List, [], ◌∷◌, ◌++◌, length, take, reverse, Option, Some, None, option_and_then, slice_get, refl, sym, ◌∙◌, ap, subst, arith, zero-add}
use Rattle.std.specs.Option.{option_map_or}
use Rattle.std.proofs.lemmas.List.{reverse-append}
use Rattle.lid_base.proofs.Lists.{get_among, all_among}
use Rattle.lid_design.specs.declared.Design.{Design}
use Rattle.lid_design.specs.declared.Model.{Model}
use Rattle.lid_design.specs.declared.Inst.{Inst}
use Rattle.lid_design.specs.WellFormed.{IsWellFormed}
use Rattle.lid_design.specs.Models.{insts_of, instance_number, number_named, number_from}
use Rattle.lid_design.specs.Elaboration.{model_nets, columns, instances}
use Rattle.lid_check_elab.specs.Numbers.{over_insts, size_within, size_of, offset_of, start_of, weight_within, weight_of}
use Rattle.lid_check_elab.specs.Scopes.{IsScopeAt, AreNext, weights}
use Rattle.lid_check_elab.specs.declared.placing.Scope.{Scope}
use Rattle.lid_check_drivers.proofs.Shallow.{IsShallow}
use Rattle.lid_check_elab.proofs.Numbering.{over_same, size_same, columns_length}

module _ (d : Design) where
  weight_same : (n k : ℕ) → IsShallow d n k → weight_within n d k ≡ weight_within (suc n) d k
  weight_same zero k none = absurd none
  weight_same (suc n) k deep = ap (λ (w : ℕ). 1 + w) (over_same d (weight_within n d) (weight_within (suc n) d) (insts_of d k) (λ i j names. weight_same n j (deep i j names)))

  -- the sums of a model by those of its instances
  pub size_sum : (k : ℕ) → IsShallow d (length d.models) k → size_of d k ≡ length (model_nets d k) + over_insts d (size_of d) (insts_of d k)
  unfolding size_of
  size_sum k deep = by (length d.models) refl
    where
      by : (n : ℕ) → length d.models ≡ n → size_within (length d.models) d k ≡ length (model_nets d k) + over_insts d (size_within (length d.models) d) (insts_of d k)
      by zero e = absurd (subst (λ (n : ℕ). IsShallow d n k) e deep)
      by (suc n) e =
          let subs : IsShallow d (suc n) k = subst (λ (n : ℕ). IsShallow d n k) e deep in
          ap (λ (m : ℕ). size_within m d k) e
          ∙ ap (λ (s : ℕ). length (model_nets d k) + s) (over_same d (size_within n d) (size_within (length d.models) d) (insts_of d k) (λ i j names. size_same d n j (subs i j names) ∙ ap (λ (m : ℕ). size_within m d j) (sym e)))

  pub weight_sum : (k : ℕ) → IsShallow d (length d.models) k → weight_of d k ≡ 1 + over_insts d (weight_of d) (insts_of d k)
  unfolding weight_of
  weight_sum k deep = by (length d.models) refl
    where
      by : (n : ℕ) → length d.models ≡ n → weight_within (length d.models) d k ≡ 1 + over_insts d (weight_within (length d.models) d) (insts_of d k)
      by zero e = absurd (subst (λ (n : ℕ). IsShallow d n k) e deep)
      by (suc n) e =
          let subs : IsShallow d (suc n) k = subst (λ (n : ℕ). IsShallow d n k) e deep in
          ap (λ (m : ℕ). weight_within m d k) e
          ∙ ap (λ (s : ℕ). 1 + s) (over_same d (weight_within n d) (weight_within (length d.models) d) (insts_of d k) (λ i j names. weight_same n j (subs i j names) ∙ ap (λ (m : ℕ). weight_within m d j) (sym e)))

  -- one more instance of a list
  pub over_step : (f : ℕ → ℕ) (insts : List Inst) (i : ℕ) → over_insts d f (take (suc i) insts) ≡ over_insts d f (take i insts) + option_map_or f (option_and_then (λ inst. number_named d inst.model) (slice_get insts i)) 0
  over_step f [] zero = refl
  over_step f [] (suc i) = refl
  over_step f (x ∷ insts) zero = omega arith
  over_step f (x ∷ insts) (suc i) = let e = over_step f insts i in omega arith

  pub over_more : (f : ℕ → ℕ) (k i j : ℕ) → instance_number d i k ≡ Some j → over_insts d f (take (i + 1) (insts_of d k)) ≡ over_insts d f (take i (insts_of d k)) + f j
  over_more f k i j names =
      let next : i + 1 ≡ suc i = omega arith in
      ap (λ (n : ℕ). over_insts d f (take n (insts_of d k))) next
      ∙ over_step f (insts_of d k) i
      ∙ ap (λ (o : Option ℕ). over_insts d f (take i (insts_of d k)) + option_map_or f o 0) names

  -- the scope of an instance
  pub inst_at : (path : List ℕ) (p : Scope) → IsScopeAt d path p → (i j o : ℕ) → instance_number d i p.model ≡ Some j → o ≡ offset_of d p.model i → IsScopeAt d (i ∷ path) (record { model = j; start = p.start + o; around = Some (record { model = p.model; start = p.start; inst = i }) })
  unfolding number_from start_of
  inst_at path p at i j o names off = record {
    leads = ap (option_and_then (instance_number d i)) at.leads ∙ names;
    start =
        let first : start_of d (i ∷ path) ≡ start_of d path + offset_of d p.model i = ap (λ (k : Option ℕ). start_of d path + option_map_or (λ k. offset_of d k i) k 0) at.leads in
        let begin = at.start in
        omega arith;
    outer = (path, refl, at.leads, at.start);
  }

  -- fewer than 2^32 instances
  pub few_insts : IsWellFormed d → (k : ℕ) → length (insts_of d k) < 2 ^ 32
  few_insts formed k = by (slice_get d.models k) refl
    where
      by : (o : Option Model) → slice_get d.models k ≡ o → length (option_map_or (λ m. m.insts) o []) < 2 ^ 32
      by None e = omega arith
      by (Some m) e = all_among (λ m. length m.insts < 2 ^ 32) d.models m formed.insts (get_among d.models k m e)

  -- a place is pushed before others
  pub next_pushed : (old new : List Scope) (p : Scope) (path : List ℕ) (n m : ℕ) → new ≡ old ++ p ∷ [] → IsScopeAt d path p → p.start ≡ n → m ≡ n + size_of d p.model → AreNext d m (reverse old) → AreNext d n (reverse new)
  next_pushed old new p path n m whole at start sum after =
      subst (λ (ps : List Scope). AreNext d n ps) (sym (ap reverse whole ∙ reverse-append old (p ∷ [])))
      ((path, at), start, subst (λ (x : ℕ). AreNext d x (reverse old)) sum after)

  pub weight_pushed : (old new : List Scope) (p : Scope) → new ≡ old ++ p ∷ [] → weights d (reverse new) ≡ weight_of d p.model + weights d (reverse old)
  weight_pushed old new p whole = ap (weights d) (ap reverse whole ∙ reverse-append old (p ∷ []))

  -- the root comes first
  pub root_first : AreNext d 0 (record { model = d.root; start = 0; around = None } ∷ [])
  unfolding size_of columns instances start_of number_from
  root_first = (([], record { leads = refl; start = refl; outer = refl }), refl, zero-add (size_within (length d.models) d d.root) ∙ sym (columns_length d (length d.models) [] d.root))
