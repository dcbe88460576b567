-- Clock names of models that do not reach themselves, by the clock names of the models of their
-- instances.
use Rattle.std.proofs.Common.{◌≡◌, ℕ, zero, suc, ◌+◌, ◌<◌, ◌≤◌, nat_lt, Bool, true, false, not, ◌||◌, ◌&&◌, cond, List, [], ◌∷◌, length, find, position, Option, Some, None, option_and_then, slice_get, inl, inr, refl, sym, ◌∙◌, ap, subst, arith, one-add}
use Rattle.std.specs.Option.{option_map_or}
use Rattle.std.specs.List.{list_any, prefix_len}
use Rattle.std.specs.Str.{bytes_eq}
use Rattle.std.proofs.Math.Bool.{and-false}
use Rattle.std.proofs.lemmas.Bool.{lt-ltb, le-ltb, ltb-true, ltb-false}
use Rattle.lid_base.specs.Lists.{Among}
use Rattle.lid_design.specs.declared.Design.{Design}
use Rattle.lid_design.specs.declared.Model.{Model}
use Rattle.lid_design.specs.declared.Inst.{Inst}
use Rattle.lid_design.specs.declared.Bind.{Bind}
use Rattle.lid_design.specs.Columns.{is_own_clock, binds_clock, is_clock_within, is_clock}
use Rattle.lid_design.specs.WellFormed.{IsWellFormed}
use Rattle.lid_design.specs.Models.{number_named, instance_number, is_clock_of}
use Rattle.lid_check_hierarchy.specs.Surveys.{StandsAfterItsModels, IsModelOrder}
use Rattle.lid_check_hierarchy.specs.Clocks.{binds_to, inst_binds, is_clock_in, is_clock_by}

lt_suc : (k n : ℕ) → nat_lt (suc k) (suc n) ≡ nat_lt k n
lt_suc k n = by (nat_lt k n) refl
  where
    by : (b : Bool) → nat_lt k n ≡ b → nat_lt (suc k) (suc n) ≡ b
    by true e = let h : k < n = ltb-true k n e in lt-ltb (suc k) (suc n) (omega arith)
    by false e = let h : n ≤ k = ltb-false k n e in le-ltb (suc k) (suc n) (omega arith)

-- what is found is what stands at the first place
pub find_position : {A : Type 0} (p : A → Bool) (xs : List A) → find p xs ≡ option_and_then (slice_get xs) (position p xs)
find_position p [] = refl
find_position {A} p (x ∷ xs) = by (p x) (find_position p xs)
  where
    inner : (k : ℕ) → option_and_then (slice_get xs) (cond (nat_lt k (length xs)) (Some k) None) ≡ option_and_then (slice_get (x ∷ xs)) (cond (nat_lt (1 + k) (suc (length xs))) (Some (1 + k)) None)
    inner k = ap (λ (b : Bool). option_and_then (slice_get xs) (cond b (Some k) None)) (sym (lt_suc k (length xs))) ∙ pick (nat_lt (suc k) (suc (length xs))) ∙ ap (λ (n : ℕ). option_and_then (slice_get (x ∷ xs)) (cond (nat_lt n (suc (length xs))) (Some n) None)) (sym (one-add k))
      where
        pick : (b : Bool) → option_and_then (slice_get xs) (cond b (Some k) None) ≡ option_and_then (slice_get (x ∷ xs)) (cond b (Some (suc k)) None)
        pick true = refl
        pick false = refl

    by : (b : Bool) → find p xs ≡ option_and_then (slice_get xs) (position p xs) → cond b (Some x) (find p xs) ≡ option_and_then (slice_get (x ∷ xs)) (cond (nat_lt (cond (not b) (1 + prefix_len (λ y. not (p y)) xs) 0) (suc (length xs))) (Some (cond (not b) (1 + prefix_len (λ y. not (p y)) xs) 0)) None)
    by true later = ap (λ (b : Bool). option_and_then (slice_get (x ∷ xs)) (cond b (Some 0) None)) (sym (lt-ltb 0 (suc (length xs)) (omega arith)))
    by false later = later ∙ inner (prefix_len (λ y. not (p y)) xs)

-- a test by fuel, of the model of a number
abbrev pub within : Design → ℕ → ℕ → List ℕ → Bool
within d n k net = option_map_or (λ m. is_clock_within n d m net) (slice_get d.models k) false

any_same : {A : Type 0} (p q : A → Bool) (xs : List A) → ((i : ℕ) (x : A) → slice_get xs i ≡ Some x → p x ≡ q x) → list_any p xs ≡ list_any q xs
any_same p q [] same = refl
any_same p q (x ∷ xs) same =
    let head = same zero x refl in
    let tail = any_same p q xs (λ i y e. same (suc i) y e) in
    cc

binds_to_same : (p q : List ℕ → Bool) (net : List ℕ) (binds : List Bind) → ((formal : List ℕ) → p formal ≡ q formal) → binds_to p net binds ≡ binds_to q net binds
binds_to_same p q net binds same = any_same _ _ binds (λ i b e. ap (λ (v : Bool). bytes_eq b.actual net && v) (same b.formal))

module _ (d : Design) where
  -- tests that agree on the models of the instances
  pub clock_by_same : (p q : ℕ → List ℕ → Bool) (k : ℕ) → ((i j : ℕ) (formal : List ℕ) → instance_number d i k ≡ Some j → p j formal ≡ q j formal) → (net : List ℕ) → is_clock_by d p k net ≡ is_clock_by d q k net
  clock_by_same p q k same net = by (slice_get d.models k) refl
    where
      of_inst : (m : Model) → slice_get d.models k ≡ Some m → (i : ℕ) (inst : Inst) → slice_get m.insts i ≡ Some inst → (o : Option ℕ) → number_named d inst.model ≡ o → option_map_or (λ j. binds_to (p j) net inst.binds) o false ≡ option_map_or (λ j. binds_to (q j) net inst.binds) o false
      of_inst m here i inst at None names = refl
      of_inst m here i inst at (Some j) names =
          let number : instance_number d i k ≡ Some j = ap (λ (o : Option Model). option_and_then (λ inst. number_named d inst.model) (slice_get (option_map_or (λ m. m.insts) o []) i)) here ∙ ap (option_and_then (λ inst. number_named d inst.model)) at ∙ names in
          binds_to_same (p j) (q j) net inst.binds (λ formal. same i j formal number)

      by : (o : Option Model) → slice_get d.models k ≡ o → option_map_or (is_clock_in d p net) o false ≡ option_map_or (is_clock_in d q net) o false
      by None here = refl
      by (Some m) here = ap (λ (b : Bool). is_own_clock m net || b) (any_same _ _ m.insts (λ i inst at. of_inst m here i inst at (number_named d inst.model) refl))

  -- one step into instances
  within_step : (n k : ℕ) (net : List ℕ) → within d (suc n) k net ≡ is_clock_by d (within d n) k net
  within_step n k net = by (slice_get d.models k)
    where
      of_number : (inst : Inst) (o : Option ℕ) → option_map_or (λ m. list_any (λ b. bytes_eq b.actual net && is_clock_within n d m b.formal) inst.binds) (option_and_then (slice_get d.models) o) false ≡ option_map_or (λ j. binds_to (within d n j) net inst.binds) o false
      of_number inst None = refl
      of_number inst (Some j) = of_model (slice_get d.models j)
        where
          none : (binds : List Bind) → false ≡ list_any (λ (b : Bind). bytes_eq b.actual net && false) binds
          none [] = refl
          none (b ∷ binds) = none binds ∙ ap (λ (v : Bool). v || list_any (λ (c : Bind). bytes_eq c.actual net && false) binds) (sym (and-false (bytes_eq b.actual net)))

          of_model : (o : Option Model) → option_map_or (λ m. list_any (λ b. bytes_eq b.actual net && is_clock_within n d m b.formal) inst.binds) o false ≡ list_any (λ b. bytes_eq b.actual net && option_map_or (λ m. is_clock_within n d m b.formal) o false) inst.binds
          of_model None = none inst.binds
          of_model (Some m) = refl

      of_inst : (inst : Inst) → binds_clock d (is_clock_within n d) net inst ≡ inst_binds d (within d n) net inst
      of_inst inst = ap (λ (o : Option Model). option_map_or (λ m. list_any (λ b. bytes_eq b.actual net && is_clock_within n d m b.formal) inst.binds) o false) (find_position (λ m. bytes_eq m.name inst.model) d.models) ∙ of_number inst (number_named d inst.model)

      by : (o : Option Model) → option_map_or (λ m. is_clock_within (suc n) d m net) o false ≡ option_map_or (is_clock_in d (within d n) net) o false
      by None = refl
      by (Some m) = ap (λ (b : Bool). is_own_clock m net || b) (any_same _ _ m.insts (λ i inst at. of_inst inst))

  abbrev pub StableFrom : ℕ → ℕ → Type 0
  StableFrom least x = (n : ℕ) → least ≤ n → (net : List ℕ) → within d n x net ≡ within d (suc n) x net

  -- the models of the instances of k are stable from one below
  abbrev pub SubsStable : ℕ → ℕ → Type 0
  SubsStable total k = (i j n : ℕ) → instance_number d i k ≡ Some j → total ≤ suc n → (net : List ℕ) → within d n j net ≡ within d (suc n) j net

  stable_next : (found : List ℕ) (k : ℕ) → ((i j : ℕ) → instance_number d i k ≡ Some j → Among j found) → ((x : ℕ) → Among x found → StableFrom (length found) x) → StableFrom (suc (length found)) k
  stable_next found k after stable zero le net = absurd (omega arith)
  stable_next found k after stable (suc n) le net =
      within_step n k net
      ∙ clock_by_same (within d n) (within d (suc n)) k (λ i j formal names. stable j (after i j names) n (omega arith) formal) net
      ∙ sym (within_step (suc n) k net)

  subs_stable : (found order : List ℕ) (total : ℕ) → length found + length order ≤ total → StandsAfterItsModels d found order → ((x : ℕ) → Among x found → StableFrom (length found) x) → (k : ℕ) → Among k order → SubsStable total k
  subs_stable found [] total le after stable k among = absurd among
  subs_stable found (x ∷ order) total le after stable k (inl same) = λ i j n names le' net. stable j (after.0 i j (subst (λ (y : ℕ). instance_number d i y ≡ Some j) same names)) n (omega arith) net
  subs_stable found (x ∷ order) total le after stable k (inr among) =
      subs_stable (x ∷ found) order total (omega arith) after.1
      (λ y here. by y here)
      k among
    where
      by : (y : ℕ) → Among y (x ∷ found) → StableFrom (suc (length found)) y
      by y (inl same) = subst (StableFrom (suc (length found))) (sym same) (stable_next found x after.0 stable)
      by y (inr here) = λ n more net. stable y here n (omega arith) net

  -- the clock names of a reached model
  pub clock_fixpoint : IsWellFormed d → (order : List ℕ) → IsModelOrder d order → (k : ℕ) → Among k order → (net : List ℕ) → is_clock_of d k net ≡ is_clock_by d (is_clock_of d) k net
  unfolding is_clock
  clock_fixpoint formed order ordered k among net = by (length d.models) refl
    where
      by : (n : ℕ) → length d.models ≡ n → within d (length d.models) k net ≡ is_clock_by d (within d (length d.models)) k net
      by zero e = absurd (let h = formed.rooted in omega arith)
      by (suc n) e =
          let stable = subs_stable [] order (suc n) (let h = ordered.short in omega arith) ordered.after (λ x none. absurd none) k among in
          subst (λ (m : ℕ). within d m k net ≡ is_clock_by d (within d m) k net) (sym e)
          (within_step n k net ∙ clock_by_same (within d n) (within d (suc n)) k (λ i j formal names. stable i j n names (omega arith) formal) net)
