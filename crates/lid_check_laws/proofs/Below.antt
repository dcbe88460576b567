-- A plain root with instances: which models stand at which paths.
use Rattle.std.proofs.Common.{◌≡◌, ◌⊎◌, ℕ, zero, suc, ◌+◌, ◌<◌, ◌≤◌, ◌==◌, Bool, true, false, ◌||◌, ◌&&◌, cond, find, List, [], ◌∷◌, ◌++◌, length, map, Option, Some, None, option_and_then, slice_get, inl, inr, refl, sym, ◌∙◌, ap, subst, arith}
use Rattle.std.specs.Option.{option_map_or}
use Rattle.std.specs.List.{IsDistinct, list_any, flat_map, enumerate_from}
use Rattle.std.specs.Str.{bytes_eq}
use Rattle.std.proofs.lemmas.Bool.{eq-eqb, eqb-true, eqb-false, or_cases, or_right, and_right, or_left}
use Rattle.std.proofs.lemmas.List.{length-append}
use Rattle.lid_base.specs.Lists.{Among}
use Rattle.lid_base.proofs.Lists.{then_some, get_among, among_get, among_map, map_among, flat_among, enumerate_among, all_among, same_bytes, bytes_same, any_some, any_true}
use Rattle.lid_design.specs.declared.Design.{Design}
use Rattle.lid_design.specs.declared.Model.{Model}
use Rattle.lid_design.specs.declared.Cell.{Cell}
use Rattle.lid_design.specs.declared.Cell.TheVariants.{Names, Latch}
use Rattle.lid_design.specs.declared.Inst.{Inst}
use Rattle.lid_design.specs.declared.Bind.{Bind}
use Rattle.lid_design.specs.Columns.{model_named, binds_clock, is_clock_within, is_clock}
use Rattle.lid_design.specs.Models.{insts_of, number_named, instance_number, number_from, is_buffer, is_constant, IsReached, Ascend, AreReached, HasNoRecursion}
use Rattle.lid_design.specs.Elaboration.{Instance, instance, instances_in, instances, greatest, depth}
use Rattle.lid_design.specs.WellFormed.{model_name, IsWellFormed}
use Rattle.lid_check_hierarchy.proofs.Fixpoints.{find_position}
use Rattle.lid_check_hierarchy.proofs.Orders.{number_from_append}
use Rattle.lid_check_hierarchy.proofs.Walks.{reached_below}
use Rattle.lid_check_laws.specs.Plain.{IsUnclocked, IsPlainInst, IsPlainRoot}
use Rattle.lid_check_laws.proofs.Sets.{any_none}
use Rattle.lid_check_laws.proofs.Alone.{some_none, no_inst}
use Rattle.lid_check_laws.proofs.Lone.{own_none, pearl_free}
use Rattle.lid_base.proofs.Options.{same_some}

-- among models of distinct names, one of a name is found
pub found_named : (ms : List Model) (sub : Model) (name : List ℕ) → IsDistinct bytes_eq (map model_name ms) → Among sub ms → sub.name ≡ name → find (λ m. bytes_eq m.name name) ms ≡ Some sub
unfolding IsDistinct
found_named [] sub name distinct none named = absurd none
found_named (x ∷ ms) sub name distinct (inl same) named = by (bytes_eq x.name name) (bytes_same x.name name (ap (λ (m : Model). m.name) (sym same) ∙ named))
  where
    by : (b : Bool) → b ≡ true → cond b (Some x) (find (λ m. bytes_eq m.name name) ms) ≡ Some sub
    by true e = ap Some (sym same)
    by false e = absurd (let f : false ≡ true = e in cc)
found_named (x ∷ ms) sub name distinct (inr later) named = by (bytes_eq x.name name) refl (found_named ms sub name distinct.1 later named)
  where
    by : (b : Bool) → bytes_eq x.name name ≡ b → find (λ m. bytes_eq m.name name) ms ≡ Some sub → cond b (Some x) (find (λ m. bytes_eq m.name name) ms) ≡ Some sub
    by true e found =
        let apart = all_among (λ y. bytes_eq x.name y ≡ false) (map model_name ms) sub.name distinct.0 (among_map model_name sub ms later) in
        let alike = bytes_same x.name sub.name (same_bytes x.name name e ∙ sym named) in
        absurd (let f : true ≡ false = sym alike ∙ apart in cc)
    by false e found = found

-- the numbers from a start on that a test takes
abbrev pub picked : (ℕ → Bool) → ℕ → ℕ → List ℕ
picked test start zero = []
picked test start (suc n) = cond (test start) (start ∷ picked test (start + 1) n) (picked test (start + 1) n)

picked_ascend : (test : ℕ → Bool) (least start n : ℕ) → least ≤ start → Ascend least (picked test start n)
picked_ascend test least start zero le = tt
picked_ascend test least start (suc n) le = by (test start) (picked_ascend test (start + 1) (start + 1) n (omega arith)) (picked_ascend test least (start + 1) n (omega arith))
  where
    by : (b : Bool) → Ascend (start + 1) (picked test (start + 1) n) → Ascend least (picked test (start + 1) n) → Ascend least (cond b (start ∷ picked test (start + 1) n) (picked test (start + 1) n))
    by true here later = (le, here)
    by false here later = later

picked_passes : (test : ℕ → Bool) (k start n : ℕ) → Among k (picked test start n) → test k ≡ true
picked_passes test k start zero none = absurd none
picked_passes test k start (suc n) among = by (test start) refl among (picked_passes test k (start + 1) n)
  where
    by : (b : Bool) → test start ≡ b → Among k (cond b (start ∷ picked test (start + 1) n) (picked test (start + 1) n)) → (Among k (picked test (start + 1) n) → test k ≡ true) → test k ≡ true
    by true e (inl same) next = ap test same ∙ e
    by true e (inr later) next = next later
    by false e later next = next later

passes_picked : (test : ℕ → Bool) (k start n : ℕ) → start ≤ k → k < start + n → test k ≡ true → Among k (picked test start n)
passes_picked test k start zero low high passes = absurd (omega arith)
passes_picked test k start (suc n) low high passes =
    by (start == k) refl (test start) refl
    (λ other. let differ : start ≡ k → ⊥ = eqb-false start k other in passes_picked test k (start + 1) n (omega arith) (omega arith) passes)
  where
    by : (alike : Bool) → (start == k) ≡ alike → (b : Bool) → test start ≡ b → ((start == k) ≡ false → Among k (picked test (start + 1) n)) → Among k (cond b (start ∷ picked test (start + 1) n) (picked test (start + 1) n))
    by true e true f next = inl (sym (eqb-true start k e))
    by true e false f next = absurd (let g : true ≡ false = sym passes ∙ ap test (sym (eqb-true start k e)) ∙ f in cc)
    by false e true f next = inr (next e)
    by false e false f next = next e

-- the model of an instance of the root, with its number
pub record IsSub (d : Design) (m : Model) (i : ℕ) (k : ℕ) : Type 0 where
  pub inst : Inst
  pub at : slice_get m.insts i ≡ Some inst
  pub names : number_named d inst.model ≡ Some k
  pub sub : Model
  pub here : slice_get d.models k ≡ Some sub
  pub named : model_named d inst.model ≡ Some sub
  pub plain : IsPlainInst d inst sub

module _ (d : Design) (formed : IsWellFormed d) (m : Model) (root : slice_get d.models d.root ≡ Some m) (plain : IsPlainRoot d m) where
  pub insts_are : insts_of d d.root ≡ m.insts
  insts_are = ap (λ (o : Option Model). option_map_or (λ m. m.insts) o []) root

  pub sub_of : (i : ℕ) (inst : Inst) → slice_get m.insts i ≡ Some inst → (k : ℕ) × IsSub d m i k
  sub_of i inst at =
      let found = plain.insts inst (get_among m.insts i inst at) in
      let named : model_named d inst.model ≡ Some found.0 = found_named d.models found.0 inst.model formed.distinct found.1.there found.1.named in
      let place = then_some (number_named d inst.model) (slice_get d.models) found.0 (sym (find_position (λ m. bytes_eq m.name inst.model) d.models) ∙ named) in
      (place.0, record { inst = inst; at = at; names = place.1; sub = found.0; here = place.2; named = named; plain = found.1 })

  pub sub_at : (i j : ℕ) → instance_number d i d.root ≡ Some j → IsSub d m i j
  sub_at i j names =
      let found = then_some (slice_get (insts_of d d.root) i) (λ inst. number_named d inst.model) j names in
      let sub = sub_of i found.0 (ap (λ (insts : List Inst). slice_get insts i) (sym insts_are) ∙ found.1) in
      let inst_is : sub.1.inst ≡ found.0 = same_some (slice_get m.insts i) sub.1.inst found.0 sub.1.at (ap (λ (insts : List Inst). slice_get insts i) (sym insts_are) ∙ found.1) in
      let number_is : sub.0 ≡ j = same_some (number_named d found.0.model) sub.0 j (ap (λ (inst : Inst). number_named d inst.model) (sym inst_is) ∙ sub.1.names) found.2 in
      subst (λ (k : ℕ). IsSub d m i k) number_is sub.1

  pub sub_inst : (i k : ℕ) → IsSub d m i k → instance_number d i d.root ≡ Some k
  sub_inst i k sub = ap (λ (insts : List Inst). option_and_then (λ inst. number_named d inst.model) (slice_get insts i)) insts_are ∙ ap (option_and_then (λ inst. number_named d inst.model)) sub.at ∙ sub.names

  pub sub_insts : (i k : ℕ) → IsSub d m i k → insts_of d k ≡ []
  sub_insts i k sub = ap (λ (o : Option Model). option_map_or (λ m. m.insts) o []) sub.here ∙ sub.plain.pearl.insts

  -- the root is no model of an instance of it
  pub sub_other : (i k : ℕ) → IsSub d m i k → k ≡ d.root → ⊥
  sub_other i k sub same =
      let model : sub.sub ≡ m = same_some (slice_get d.models k) sub.sub m sub.here (ap (slice_get d.models) same ∙ root) in
      let none : length m.insts ≡ 0 = ap (λ (x : Model). length x.insts) (sym model) ∙ ap length sub.plain.pearl.insts in
      let some = plain.some in
      absurd (omega arith)

  none_below : (i k : ℕ) → IsSub d m i k → (j n : ℕ) → instance_number d j k ≡ Some n → ⊥
  none_below i k sub j n names =
      let found = then_some (slice_get (insts_of d k) j) (λ inst. number_named d inst.model) n names in
      some_none found.0 (sym found.1 ∙ ap (λ (insts : List Inst). slice_get insts j) (sub_insts i k sub ∙ sym sub.plain.pearl.insts) ∙ no_inst sub.sub sub.plain.pearl.insts j)

  -- a path leads to the root, or to the model of an instance of it
  pub leads_to : (path : List ℕ) (k : ℕ) → number_from d d.root path ≡ Some k → ((path ≡ []) × (k ≡ d.root)) ⊎ ((i : ℕ) × (path ≡ i ∷ []) × IsSub d m i k)
  unfolding number_from
  leads_to [] k leads = inl (refl, (let e : Some d.root ≡ Some k = leads in cc))
  leads_to (i ∷ path) k leads =
      let found = then_some (number_from d d.root path) (instance_number d i) k leads in
      by found.0 found.2 (leads_to path found.0 found.1)
    where
      by : (n : ℕ) → instance_number d i n ≡ Some k → ((path ≡ []) × (n ≡ d.root)) ⊎ ((j : ℕ) × (path ≡ j ∷ []) × IsSub d m j n) → ((i ∷ path ≡ []) × (k ≡ d.root)) ⊎ ((j : ℕ) × (i ∷ path ≡ j ∷ []) × IsSub d m j k)
      by n names (inl top) = inr (i, ap (λ (p : List ℕ). i ∷ p) top.0, sub_at i k (ap (instance_number d i) (sym top.1) ∙ names))
      by n names (inr below) = absurd (none_below below.0 n below.2 i k names)

  pub no_recursion : HasNoRecursion d
  no_recursion k reached itself = by (leads_to reached.0 k reached.1) (leads_to ((itself.0 ∷ itself.1) ++ reached.0) k whole)
    where
      whole : number_from d d.root ((itself.0 ∷ itself.1) ++ reached.0) ≡ Some k
      whole =
          number_from_append d d.root (itself.0 ∷ itself.1) reached.0
          ∙ ap (option_and_then (λ b. number_from d b (itself.0 ∷ itself.1))) reached.1
          ∙ itself.2

      by : ((reached.0 ≡ []) × (k ≡ d.root)) ⊎ ((i : ℕ) × (reached.0 ≡ i ∷ []) × IsSub d m i k) → (((itself.0 ∷ itself.1) ++ reached.0 ≡ []) × (k ≡ d.root)) ⊎ ((i : ℕ) × ((itself.0 ∷ itself.1) ++ reached.0 ≡ i ∷ []) × IsSub d m i k) → ⊥
      by first (inl none) = absurd (let e : itself.0 ∷ (itself.1 ++ reached.0) ≡ [] = none.0 in cc)
      by (inl top) (inr below) = sub_other below.0 k below.2 top.1
      by (inr one) (inr two) =
          let long : length ((itself.0 ∷ itself.1) ++ reached.0) ≡ 1 = ap length two.1 in
          let short : length reached.0 ≡ 1 = ap length one.1 in
          let sum = length-append (itself.0 ∷ itself.1) reached.0 in
          absurd (omega arith)

  -- whether the model of a number is the root, or that of an instance of it
  is_used : ℕ → Bool
  is_used k = (k == d.root) || list_any (λ inst. option_map_or (λ j. j == k) (number_named d inst.model) false) m.insts

  used_reached : (k : ℕ) → is_used k ≡ true → IsReached d k
  unfolding is_used number_from
  used_reached k used = by (or_cases (k == d.root) _ used)
    where
      by : ((k == d.root) ≡ true) ⊎ (list_any (λ inst. option_map_or (λ j. j == k) (number_named d inst.model) false) m.insts ≡ true) → IsReached d k
      by (inl top) = ([], ap Some (sym (eqb-true k d.root top)))
      by (inr below) =
          let found = any_some (λ (inst : Inst). option_map_or (λ j. j == k) (number_named d inst.model) false) m.insts below in
          let at = among_get m.insts found.0 found.1 in
          let sub = sub_of at.0 found.0 at.1 in
          let inst_is : sub.1.inst ≡ found.0 = same_some (slice_get m.insts at.0) sub.1.inst found.0 sub.1.at at.1 in
          let same : (sub.0 == k) ≡ true = ap (λ (o : Option ℕ). option_map_or (λ j. j == k) o false) (sym (ap (λ (inst : Inst). number_named d inst.model) (sym inst_is) ∙ sub.1.names)) ∙ found.2 in
          (at.0 ∷ [], sub_inst at.0 sub.0 sub.1 ∙ ap Some (eqb-true sub.0 k same))

  reached_used : (k : ℕ) → IsReached d k → is_used k ≡ true
  unfolding is_used
  reached_used k reached = by (leads_to reached.0 k reached.1)
    where
      by : ((reached.0 ≡ []) × (k ≡ d.root)) ⊎ ((i : ℕ) × (reached.0 ≡ i ∷ []) × IsSub d m i k) → is_used k ≡ true
      by (inl top) = or_left (k == d.root) _ (eq-eqb k d.root top.1)
      by (inr below) =
          let sub = below.2 in
          or_right (k == d.root) _ (any_true (λ (inst : Inst). option_map_or (λ j. j == k) (number_named d inst.model) false) m.insts sub.inst (get_among m.insts below.0 sub.inst sub.at)
          (ap (λ (o : Option ℕ). option_map_or (λ j. j == k) o false) sub.names ∙ eq-eqb k k refl))

  pub used : List ℕ
  used = picked is_used 0 (length d.models)

  pub used_are : AreReached d used
  unfolding used
  used_are = record {
    ascend = picked_ascend is_used 0 0 (length d.models) (omega arith);
    each = λ k. (
      (λ among. used_reached k (picked_passes is_used k 0 (length d.models) among)),
      (λ reached. passes_picked is_used k 0 (length d.models) (omega arith) (let h = reached_below d formed k reached in omega arith) (reached_used k reached)),
    );
  }

  pub root_used : Among d.root used
  unfolding number_from
  root_used = (used_are.each d.root).1 ([], refl)

  -- a path of the elaboration has at most one step
  short : (p : Instance) → Among p (instances d) → length p.path ≤ 1
  unfolding instances
  short p among = by (length d.models) among
    where
      one : (n i : ℕ) (o : Option ℕ) → instance_number d i d.root ≡ o → Among p (option_map_or (instances_in n d (i ∷ [])) o []) → length p.path ≤ 1
      one n i None e none = absurd none
      one zero i (Some k) e (inl same) = let long : length p.path ≡ 1 = ap (λ (p : Instance). length p.path) same in omega arith
      one zero i (Some k) e (inr none) = absurd none
      one (suc n) i (Some k) e here = last (subst (λ (insts : List Inst). Among p (instance (i ∷ []) k ∷ flat_map (λ p. option_map_or (instances_in n d (p.0 ∷ i ∷ [])) (number_named d p.1.model) []) (enumerate_from 0 insts))) (sub_insts i k (sub_at i k e)) here)
        where
          last : (p ≡ instance (i ∷ []) k) ⊎ ⊥ → length p.path ≤ 1
          last (inl same) = let long : length p.path ≡ 1 = ap (λ (p : Instance). length p.path) same in omega arith
          last (inr none) = absurd none

      by : (n : ℕ) → Among p (instances_in n d [] d.root) → length p.path ≤ 1
      by zero (inl same) = let long : length p.path ≡ 0 = ap (λ (p : Instance). length p.path) same in omega arith
      by zero (inr none) = absurd none
      by (suc n) (inl same) = let long : length p.path ≡ 0 = ap (λ (p : Instance). length p.path) same in omega arith
      by (suc n) (inr later) =
          let found = flat_among (λ p. option_map_or (instances_in n d (p.0 ∷ [])) (number_named d p.1.model) []) p (enumerate_from 0 (insts_of d d.root)) later in
          let at = enumerate_among 0 (insts_of d d.root) found.0 found.1 in
          let number : found.0.0 ≡ at.0 = (let e = at.1 in omega arith) in
          let names : instance_number d found.0.0 d.root ≡ number_named d found.0.1.model = ap (option_and_then (λ inst. number_named d inst.model)) (ap (slice_get (insts_of d d.root)) number ∙ at.2) in
          one n found.0.0 (number_named d found.0.1.model) names found.2

  greatest_below : (b : ℕ) (ns : List ℕ) → ((n : ℕ) → Among n ns → n ≤ b) → greatest ns ≤ b
  greatest_below b [] low = omega arith
  greatest_below b (n ∷ ns) low =
      let here = low n (inl refl) in
      let later = greatest_below b ns (λ k among. low k (inr among)) in
      omega arith

  pub shallow : depth d ≤ 64
  unfolding depth
  shallow = greatest_below 64 (map (λ (p : Instance). length p.path) (instances d)) (λ n among.
      let found = map_among (λ (p : Instance). length p.path) n (instances d) among in
      let one = short found.0 found.1 in
      let same = found.2 in
      omega arith)

  -- no net of the root is a clock name
  pub root_unclocked : (cell : Cell) → Among cell m.cells → IsUnclocked cell
  root_unclocked cell among = by cell (plain.logic cell among)
    where
      by : (cell : Cell) → (is_buffer cell || is_constant cell) ≡ true → IsUnclocked cell
      by (Names inputs out cover) logic = tt
      by (Latch input out kind control init) logic = absurd (let e : false ≡ true = logic in cc)

  free_within : (n : ℕ) (net : List ℕ) → is_clock_within n d m net ≡ false
  free_within zero net = own_none m plain.clocks root_unclocked net
  free_within (suc n) net =
      ap (λ (b : Bool). b || list_any (binds_clock d (is_clock_within n d) net) m.insts) (own_none m plain.clocks root_unclocked net)
      ∙ any_none (binds_clock d (is_clock_within n d) net) m.insts (λ inst among.
      let at = among_get m.insts inst among in
      let sub = (sub_of at.0 inst at.1).1 in
      let inst_is : sub.inst ≡ inst = same_some (slice_get m.insts at.0) sub.inst inst sub.at at.1 in
      ap (λ (o : Option Model). option_map_or (λ m. list_any (λ b. bytes_eq b.actual net && is_clock_within n d m b.formal) inst.binds) o false) (ap (λ (inst : Inst). model_named d inst.model) (sym inst_is) ∙ sub.named)
      ∙ any_none (λ (b : Bind). bytes_eq b.actual net && is_clock_within n d sub.sub b.formal) inst.binds (λ b bound. and_right (bytes_eq b.actual net) (is_clock_within n d sub.sub b.formal) (pearl_free d sub.sub sub.plain.pearl n b.formal)))

  pub root_free : (net : List ℕ) → is_clock d m net ≡ false
  unfolding is_clock
  root_free net = free_within (length d.models) net
