-- Counts by recurrence on the models, and counts that are cut.
use Rattle.std.proofs.Common.{◌⊎◌, drop, drop-cons, add-one, ◌≡◌, ℕ, zero, suc, ◌+◌, ◌<◌, ◌≤◌, min, nat_lt, Bool, true, false, List, [], ◌∷◌, length, take, set, get_or, Option, Some, None, option_and_then, slice_get, inl, inr, refl, sym, ◌∙◌, ap, subst, arith}
use Rattle.std.proofs.lemmas.Bool.{ltb-true, ltb-false}
use Rattle.std.proofs.lemmas.List.{get_or-set_other}
use Rattle.std.proofs.lemmas.Grind.{get_or-set_at}
use Rattle.std.specs.Option.{option_map_or}
use Rattle.lid_base.specs.Lists.{Among}
use Rattle.lid_base.proofs.Lists.{among_at}
use Rattle.lid_design.specs.declared.Design.{Design}
use Rattle.lid_design.specs.declared.Inst.{Inst}
use Rattle.lid_design.specs.WellFormed.{IsWellFormed}
use Rattle.lid_design.specs.Models.{number_named, insts_of, instance_number, IsReached}
use Rattle.lid_check_hierarchy.specs.Surveys.{StandsAfterItsModels, IsModelOrder}
use Rattle.lid_check_models.specs.declared.counts.Measure.{Measure}
use Rattle.lid_check_models.specs.declared.counts.Measure.TheVariants.{Depth}
use Rattle.lid_check_models.specs.Counts.{own, with_instance, with_inst, with_insts, count_by_subs, count_within, count_of}
use Rattle.lid_check_hierarchy.proofs.Walks.{reached_below}
use Rattle.lid_base.proofs.Places.{item_at}

abbrev pub cut : ℕ → ℕ
cut n = min n 18446744073709551615

abbrev pub whole : ℕ → ℕ
whole n = n

-- a way to look at counts that joins keep
abbrev pub Keeps : Measure → (ℕ → ℕ) → Type 0
Keeps what h = (x y a b : ℕ) → h x ≡ h y → h a ≡ h b → h (with_instance what x a) ≡ h (with_instance what y b)

pub keeps_whole : (what : Measure) → Keeps what whole
keeps_whole Depth x y a b e f = cc
keeps_whole _ x y a b e f = cc

pub keeps_cut : (what : Measure) → Keeps what cut
keeps_cut Depth x y a b e f = omega arith
keeps_cut _ x y a b e f = omega arith

-- counts of instances that agree
module _ (what : Measure) (d : Design) (h : ℕ → ℕ) (keeps : Keeps what h) (f g : ℕ → ℕ) where
  abbrev pub Agree : List Inst → Type 0
  Agree insts = (i j : ℕ) → option_and_then (λ inst. number_named d inst.model) (slice_get insts i) ≡ Some j → h (f j) ≡ h (g j)

  pub inst_agrees : (x y : ℕ) (inst : Inst) → h x ≡ h y → ((j : ℕ) → number_named d inst.model ≡ Some j → h (f j) ≡ h (g j)) → h (with_inst what d f x inst) ≡ h (with_inst what d g y inst)
  inst_agrees x y inst e agree = by (number_named d inst.model) refl
    where
      by : (o : Option ℕ) → number_named d inst.model ≡ o → h (option_map_or (λ j. with_instance what x (f j)) o x) ≡ h (option_map_or (λ j. with_instance what y (g j)) o y)
      by None is = e
      by (Some j) is = keeps x y (f j) (g j) e (agree j is)

  pub insts_agree : (insts : List Inst) (x y : ℕ) → h x ≡ h y → Agree insts → h (with_insts what d f x insts) ≡ h (with_insts what d g y insts)
  insts_agree [] x y e agree = e
  insts_agree (inst ∷ insts) x y e agree =
      insts_agree insts (with_inst what d f x inst) (with_inst what d g y inst) (inst_agrees x y inst e (λ j is. agree zero j is)) (λ i j is. agree (suc i) j is)

  pub subs_agree : (k : ℕ) → ((i j : ℕ) → instance_number d i k ≡ Some j → h (f j) ≡ h (g j)) → h (count_by_subs what d f k) ≡ h (count_by_subs what d g k)
  unfolding count_by_subs
  subs_agree k agree = insts_agree (insts_of d k) (own what d k) (own what d k) refl agree

-- at a model in the order, more steps change nothing
module _ (what : Measure) (d : Design) where
  abbrev pub StableFrom : ℕ → ℕ → Type 0
  StableFrom least x = (n : ℕ) → least ≤ n → count_within n what d x ≡ count_within (suc n) what d x

  stable_next : (found : List ℕ) (k : ℕ) → ((i j : ℕ) → instance_number d i k ≡ Some j → Among j found) → ((x : ℕ) → Among x found → StableFrom (length found) x) → StableFrom (suc (length found)) k
  stable_next found k after stable zero le = absurd (omega arith)
  stable_next found k after stable (suc n) le = subs_agree what d whole (keeps_whole what) (count_within n what d) (count_within (suc n) what d) k (λ i j names. stable j (after i j names) n (omega arith))

  abbrev pub SubsStable : ℕ → ℕ → Type 0
  SubsStable total k = (i j n : ℕ) → instance_number d i k ≡ Some j → total ≤ suc n → count_within n what d j ≡ count_within (suc n) what d j

  subs_stable : (found order : List ℕ) (total : ℕ) → length found + length order ≤ total → StandsAfterItsModels d found order → ((x : ℕ) → Among x found → StableFrom (length found) x) → (k : ℕ) → Among k order → SubsStable total k
  subs_stable found [] total le after stable k among = absurd among
  subs_stable found (x ∷ order) total le after stable k (inl same) = λ i j n names le'. stable j (after.0 i j (subst (λ (y : ℕ). instance_number d i y ≡ Some j) same names)) n (omega arith)
  subs_stable found (x ∷ order) total le after stable k (inr among) =
      subs_stable (x ∷ found) order total (omega arith) after.1 (λ y here. by y here) k among
    where
      by : (y : ℕ) → Among y (x ∷ found) → StableFrom (suc (length found)) y
      by y (inl same) = subst (StableFrom (suc (length found))) (sym same) (stable_next found x after.0 stable)
      by y (inr here) = λ n more. stable y here n (omega arith)

  -- the count of a reached model is that by those of the models of its instances
  pub count_fixpoint : IsWellFormed d → (order : List ℕ) → IsModelOrder d order → (k : ℕ) → Among k order → count_of what d k ≡ count_by_subs what d (count_of what d) k
  unfolding count_of
  count_fixpoint formed order ordered k among = by (length d.models) refl
    where
      by : (n : ℕ) → length d.models ≡ n → count_within (length d.models) what d k ≡ count_by_subs what d (count_within (length d.models) what d) k
      by zero e = absurd (let h = formed.rooted in omega arith)
      by (suc n) e =
          let stable = subs_stable [] order (suc n) (let h = ordered.short in omega arith) ordered.after (λ x none. absurd none) k among in
          subst (λ (m : ℕ). count_within m what d k ≡ count_by_subs what d (count_within m what d) k) (sym e)
          (subs_agree what d whole (keeps_whole what) (count_within n what d) (count_within (suc n) what d) k (λ i j names. stable i j n names (omega arith)))

-- what stands before a place of the order
pub after_at : (d : Design) (earlier order : List ℕ) (i : ℕ) → StandsAfterItsModels d earlier order → i < length order → (a j : ℕ) → instance_number d a (get_or order i 0) ≡ Some j → Among j earlier ⊎ Among j (take i order)
after_at d earlier [] i after h a j names = absurd (omega arith)
after_at d earlier (k ∷ ks) zero after h a j names = inl (after.0 a j names)
after_at d earlier (k ∷ ks) (suc i) after h a j names = by (after_at d (k ∷ earlier) ks i after.1 (omega arith) a j names)
  where
    by : Among j (k ∷ earlier) ⊎ Among j (take i ks) → Among j earlier ⊎ Among j (k ∷ take i ks)
    by (inl (inl same)) = inr (inl same)
    by (inl (inr here)) = inl here
    by (inr here) = inr (inr here)

pub taken_more : (x : ℕ) (ks : List ℕ) (i : ℕ) → i < length ks → Among x (take (suc i) ks) → Among x (take i ks) ⊎ (x ≡ get_or ks i 0)
taken_more x [] i h among = absurd (omega arith)
taken_more x (k ∷ ks) zero h (inl same) = inr same
taken_more x (k ∷ ks) zero h (inr none) = absurd none
taken_more x (k ∷ ks) (suc i) h (inl same) = inl (inl same)
taken_more x (k ∷ ks) (suc i) h (inr among) = by (taken_more x ks i (omega arith) among)
  where
    by : Among x (take i ks) ⊎ (x ≡ get_or ks i 0) → Among x (k ∷ take i ks) ⊎ (x ≡ get_or ks i 0)
    by (inl here) = inl (inr here)
    by (inr same) = inr same

-- the counts of the models that were worked through, cut
abbrev pub Counted : Measure → Design → List ℕ → List ℕ → Type 0
Counted what d done counts = (x : ℕ) → Among x done → get_or counts x 0 ≡ cut (count_of what d x)

-- one more model
pub counted_more : (what : Measure) (d : Design) → IsWellFormed d → (order : List ℕ) → IsModelOrder d order → (i : ℕ) → i < length order → (counts : List ℕ) → length counts ≡ length d.models → Counted what d (take i order) counts → (value : ℕ) → value ≡ cut (count_by_subs what d (λ j. get_or counts j 0) (get_or order i 0)) → Counted what d (take (i + 1) order) (set counts (get_or order i 0) value)
counted_more what d formed order ordered i h counts long done value is x among = by (taken_more x order i h (subst (λ (n : ℕ). Among x (take n order)) (add-one i) among))
  where
    k : ℕ
    k = get_or order i 0

    below : k < length counts
    below = subst (λ (n : ℕ). k < n) (sym long) (reached_below d formed k (ordered.only k (among_at order i 0 h)))

    sub_is : (a j : ℕ) → instance_number d a k ≡ Some j → cut (get_or counts j 0) ≡ cut (count_of what d j)
    sub_is a j names = pick (after_at d [] order i ordered.after h a j names)
      where
        pick : Among j [] ⊎ Among j (take i order) → cut (get_or counts j 0) ≡ cut (count_of what d j)
        pick (inl none) = absurd none
        pick (inr here) = ap cut (done j here) ∙ omega arith

    value_is : value ≡ cut (count_of what d k)
    value_is = is ∙ subs_agree what d cut (keeps_cut what) (λ j. get_or counts j 0) (count_of what d) k sub_is ∙ ap cut (sym (count_fixpoint what d formed order ordered k (among_at order i 0 h)))

    by : Among x (take i order) ⊎ (x ≡ k) → get_or (set counts k value) x 0 ≡ cut (count_of what d x)
    by found = split (nat_lt x k) (nat_lt k x) refl refl
      where
        other : (x ≡ k → ⊥) → get_or (set counts k value) x 0 ≡ cut (count_of what d x)
        other apart = get_or-set_other counts k x value 0 apart ∙ pick found
          where
            pick : Among x (take i order) ⊎ (x ≡ k) → get_or counts x 0 ≡ cut (count_of what d x)
            pick (inl here) = done x here
            pick (inr same) = absurd (apart same)

        split : (a b : Bool) → nat_lt x k ≡ a → nat_lt k x ≡ b → get_or (set counts k value) x 0 ≡ cut (count_of what d x)
        split true b e f = let l = ltb-true x k e in other (λ same. omega arith)
        split false true e f = let l = ltb-true k x f in other (λ same. omega arith)
        split false false e f =
            let a = ltb-false x k e in
            let b = ltb-false k x f in
            let same : x ≡ k = omega arith in
            get_or-set_at counts k x value 0 same below ∙ value_is ∙ ap (λ (y : ℕ). cut (count_of what d y)) (sym same)

-- a count that begins with the model itself, and goes on by its instances
pub counts_init : (what : Measure) (d : Design) (f : ℕ → ℕ) (k count : ℕ) (insts : List Inst) → insts ≡ insts_of d k → count ≡ cut (own what d k) → cut (with_insts what d f count insts) ≡ cut (count_by_subs what d f k)
unfolding count_by_subs
counts_init what d f k count insts here is =
    insts_agree what d cut (keeps_cut what) f f insts count (own what d k) (omega arith) (λ i j names. refl)
    ∙ ap (λ (xs : List Inst). cut (with_insts what d f (own what d k) xs)) here

pub counts_step : (what : Measure) (d : Design) (f : ℕ → ℕ) (insts : List Inst) (i : ℕ) (inst : Inst) (count new : ℕ) → i < length insts → inst ≡ get_or insts i inst → new ≡ cut (with_inst what d f count inst) → cut (with_insts what d f new (drop (i + 1) insts)) ≡ cut (with_insts what d f count (drop i insts))
counts_step what d f insts i inst count new h here is =
    let first : drop i insts ≡ inst ∷ drop (i + 1) insts = drop-cons insts i inst h ∙ ap (λ (x : Inst). x ∷ drop (suc i) insts) (sym here) ∙ ap (λ (n : ℕ). inst ∷ drop n insts) (sym (add-one i)) in
    insts_agree what d cut (keeps_cut what) f f (drop (i + 1) insts) new (with_inst what d f count inst) (ap cut is ∙ omega arith) (λ i j names. refl)
    ∙ sym (ap (λ (xs : List Inst). cut (with_insts what d f count xs)) first)

-- a reached model is there
pub never_past : (d : Design) → IsWellFormed d → (k : ℕ) → IsReached d k → slice_get d.models k ≡ None → ⊥
never_past d formed k reached past =
    let m = item_at d.models k (reached_below d formed k reached) in
    let e : None ≡ Some m.0 = sym past ∙ m.1 in
    cc
