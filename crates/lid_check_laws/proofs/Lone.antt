-- A plain root without instances meets the conditions on models.
use Rattle.std.proofs.Common.{◌≡◌, ℕ, zero, suc, ◌+◌, ◌≤◌, ◌==◌, Bool, true, false, ◌||◌, cond, not, find, List, [], ◌∷◌, ◌++◌, length, map, Option, Some, None, option_map, slice_get, inl, inr, refl, sym, ◌∙◌, ap, subst, arith}
use Rattle.std.specs.Option.{option_map_or}
use Rattle.std.specs.List.{IsDistinct, flat_map, list_any, enumerate_from, sum_by}
use Rattle.std.specs.Str.{bytes_eq}
use Rattle.std.proofs.lemmas.Bool.{eq-eqb}
use Rattle.std.proofs.lemmas.List.{append-nil, length-append, length-map}
use Rattle.std.proofs.lemmas.List.Sums.{sum_by-cons}
use Rattle.lid_base.specs.Lists.{Among}
use Rattle.lid_base.proofs.Lists.{then_some}
use Rattle.lid_design.specs.declared.Design.{Design}
use Rattle.lid_design.specs.declared.Model.{Model}
use Rattle.lid_design.specs.declared.Cell.{Cell}
use Rattle.lid_design.specs.declared.Cell.TheVariants.{Names, Latch}
use Rattle.lid_design.specs.declared.Inst.{Inst}
use Rattle.lid_design.specs.Columns.{is_among, is_clocked_by, is_own_clock, binds_clock, is_clock_within, is_clock}
use Rattle.lid_design.specs.Models.{is_buffer, is_constant, cell_out, cell_reads, actual_names, driven_by, insts_of, number_named, instance_number, number_from, nets, IsReached, AreReached, HasNoRecursion}
use Rattle.lid_design.specs.Elaboration.{Instance, instance, instances_in, instances, model_nets, own_cell_count, over_instances, count_cells, count_nets, greatest, depth}
use Rattle.lid_check_rules.specs.declared.fault.CheckFault.TheVariants.{RootLogic}
use Rattle.lid_check_rules.specs.Conditions.{logic_in}
use Rattle.lid_check_rules.specs.Acceptance.{ModelsPass}
use Rattle.lid_check_laws.specs.Plain.{IsUnclocked, pearl_drivers, IsPlainPearl, root_drivers}
use Rattle.lid_check_laws.proofs.Sets.{any_none}
use Rattle.lid_check_laws.proofs.Alone.{some_none, no_inst}
use Rattle.lid_check_laws.proofs.Sound.{IsPlainModel, models_pass}
use Rattle.lid_check_laws.proofs.Nets.{nets_few}

-- no cell makes a clock name
pub own_none : (m : Model) → m.clocks ≡ [] → ((cell : Cell) → Among cell m.cells → IsUnclocked cell) → (net : List ℕ) → is_own_clock m net ≡ false
own_none m clocks cells net =
    ap (λ (names : List (List ℕ)). is_among net names || list_any (is_clocked_by net) m.cells) clocks
    ∙ any_none (is_clocked_by net) m.cells (λ cell among. by cell (cells cell among))
  where
    by : (cell : Cell) → IsUnclocked cell → is_clocked_by net cell ≡ false
    by (Names inputs out cover) unclocked = refl
    by (Latch input out kind control init) unclocked = ap (λ (o : Option (List ℕ)). option_map_or (bytes_eq net) o false) unclocked.1

pub pearl_free : (d : Design) (m : Model) → IsPlainPearl m → (n : ℕ) (net : List ℕ) → is_clock_within n d m net ≡ false
pearl_free d m pearl zero net = own_none m pearl.clocks pearl.cells net
pearl_free d m pearl (suc n) net =
    ap (λ (b : Bool). b || list_any (binds_clock d (is_clock_within n d) net) m.insts) (own_none m pearl.clocks pearl.cells net)
    ∙ ap (list_any (binds_clock d (is_clock_within n d) net)) pearl.insts

pub no_clock : (d : Design) (m : Model) → IsPlainPearl m → (net : List ℕ) → is_clock d m net ≡ false
unfolding is_clock
no_clock d m pearl net = pearl_free d m pearl (length d.models) net

-- without instances, the drivers are those of a pearl
pub pearl_root : (d : Design) (m : Model) → m.insts ≡ [] → pearl_drivers m ≡ root_drivers d m
pearl_root d m alone = sym (ap (λ (insts : List Inst). pearl_drivers m ++ flat_map (driven_by d) insts) alone ∙ append-nil (pearl_drivers m))

pub plain_pearl : (d : Design) (is_root : Bool) (m : Model) → IsPlainPearl m → (is_root ≡ false → (name : List ℕ) → Among name m.outputs → ¬ Among name m.inputs) → IsPlainModel d is_root m
plain_pearl d is_root m pearl apart = record {
  clocks = pearl.clocks;
  free = no_clock d m pearl;
  cells = pearl.cells;
  outputs = pearl.outputs;
  apart = apart;
  once = subst (λ (names : List (List ℕ)). IsDistinct bytes_eq names) (pearl_root d m pearl.insts) pearl.once;
  driven = λ name among. subst (λ (names : List (List ℕ)). Among name names) (pearl_root d m pearl.insts) (pearl.driven name (less name among));
  insts = λ inst among. absurd (subst (λ (insts : List Inst). Among inst insts) pearl.insts among);
}
  where
    less : (name : List ℕ) → Among name (flat_map cell_reads m.cells ++ flat_map actual_names m.insts ++ m.outputs) → Among name (flat_map cell_reads m.cells ++ m.outputs)
    less name among =
        subst (λ (reads : List (List ℕ)). Among name (reads ++ m.outputs)) (append-nil (flat_map cell_reads m.cells))
        (subst (λ (insts : List Inst). Among name (flat_map cell_reads m.cells ++ flat_map actual_names insts ++ m.outputs)) pearl.insts among)

module _ (d : Design) (m : Model) (root : slice_get d.models d.root ≡ Some m) (alone : m.insts ≡ []) where
  none_of : insts_of d d.root ≡ []
  none_of = ap (λ (o : Option Model). option_map_or (λ m. m.insts) o []) root ∙ alone

  no_instance : (i j : ℕ) → instance_number d i d.root ≡ Some j → ⊥
  no_instance i j names =
      let found = then_some (slice_get (insts_of d d.root) i) (λ inst. number_named d inst.model) j names in
      some_none found.0 (sym found.1 ∙ ap (λ (insts : List Inst). slice_get insts i) none_of ∙ ap (λ (insts : List Inst). slice_get insts i) (sym alone) ∙ no_inst m alone i)

  number_only : (path : List ℕ) (k : ℕ) → number_from d d.root path ≡ Some k → (path ≡ []) × (k ≡ d.root)
  unfolding number_from
  number_only [] k leads = (refl, (let e : Some d.root ≡ Some k = leads in cc))
  number_only (i ∷ path) k leads =
      let found = then_some (number_from d d.root path) (instance_number d i) k leads in
      let here = number_only path found.0 found.1 in
      absurd (no_instance i k (ap (instance_number d i) (sym here.1) ∙ found.2))

  only_reached : AreReached d (d.root ∷ [])
  unfolding number_from
  only_reached = record { ascend = (omega arith, tt); each = λ k. (to k, from k) }
    where
      to : (k : ℕ) → Among k (d.root ∷ []) → IsReached d k
      to k (inl same) = ([], ap Some (sym same))
      to k (inr none) = absurd none

      from : (k : ℕ) → IsReached d k → Among k (d.root ∷ [])
      from k reached = inl (number_only reached.0 k reached.1).1

  no_recursion : HasNoRecursion d
  no_recursion k reached itself =
      let root_is = (number_only reached.0 k reached.1).1 in
      let path : number_from d d.root (itself.0 ∷ itself.1) ≡ Some k = ap (λ (n : ℕ). number_from d n (itself.0 ∷ itself.1)) (sym root_is) ∙ itself.2 in
      absurd (let e : itself.0 ∷ itself.1 ≡ [] = (number_only (itself.0 ∷ itself.1) k path).0 in cc)

  -- the root is the only instance of the elaboration
  instances_are : instances d ≡ instance [] d.root ∷ []
  unfolding instances
  instances_are = by (length d.models)
    where
      by : (n : ℕ) → instances_in n d [] d.root ≡ instance [] d.root ∷ []
      by zero = refl
      by (suc n) = ap (λ (insts : List Inst). instance [] d.root ∷ flat_map (λ p. option_map_or (instances_in n d (p.0 ∷ [])) (number_named d p.1.model) []) (enumerate_from 0 insts)) none_of

  shallow : depth d ≤ 64
  unfolding depth
  shallow = subst (λ (ps : List Instance). greatest (map (λ p. length p.path) ps) ≤ 64) (sym instances_are) (omega arith)

  counted : (f : Design → ℕ → ℕ) → over_instances f d ≡ f d d.root
  counted f = ap (sum_by (λ (p : Instance). f d p.model)) instances_are ∙ one
    where
      one : sum_by (λ (p : Instance). f d p.model) (instance [] d.root ∷ []) ≡ f d d.root
      one = let e = sum_by-cons (λ (p : Instance). f d p.model) (instance [] d.root) [] in omega arith

  cells_counted : count_cells d ≡ length m.cells
  unfolding count_cells
  cells_counted =
      let here : own_cell_count d d.root ≡ length m.cells + length m.insts = ap (λ (o : Option Model). option_map_or (λ m. length m.cells + length m.insts) o 0) root in
      let none : length m.insts ≡ 0 = ap length alone in
      let e = counted own_cell_count in
      omega arith

  nets_counted : count_nets d ≡ length (nets d m)
  unfolding count_nets
  nets_counted = counted (λ d k. length (model_nets d k)) ∙ ap (λ (o : Option Model). length (option_map_or (nets d) o [])) root

none_told : (m : Model) → m.insts ≡ [] → logic_in m ≡ None
none_told m alone = ap (λ (b : Bool). cond b None (option_map (λ cell. RootLogic (cell_out cell)) (find (λ cell. not (is_buffer cell || is_constant cell)) m.cells))) (ap (λ (insts : List Inst). length insts == 0) alone)

pub lone_passes : (d : Design) (m : Model) → slice_get d.models d.root ≡ Some m → IsPlainPearl m → length m.cells ≤ 262144 → length m.inputs + length m.cells ≤ 1048576 → ModelsPass d
lone_passes d m root pearl cells nets_fit =
    models_pass d (d.root ∷ []) plain (inl refl) logic (omega (arith, ap length (none_of d m root pearl.insts))) (shallow d m root pearl.insts) few_cells few_nets
    (only_reached d m root pearl.insts) (no_recursion d m root pearl.insts)
  where
    plain : (k : ℕ) → Among k (d.root ∷ []) → (m : Model) × (slice_get d.models k ≡ Some m) × IsPlainModel d (k == d.root) m
    plain k (inl same) = (m, ap (slice_get d.models) same ∙ root, plain_pearl d (k == d.root) m pearl (λ other. absurd (let e : true ≡ false = sym (eq-eqb k d.root same) ∙ other in cc)))
    plain k (inr none) = absurd none

    logic : (x : Model) → slice_get d.models d.root ≡ Some x → logic_in x ≡ None
    logic x here =
        let same : x ≡ m = (let e : Some x ≡ Some m = sym here ∙ root in cc) in
        ap logic_in same ∙ none_told m pearl.insts

    few_cells : count_cells d ≤ 262144
    few_cells = let e = cells_counted d m root pearl.insts in omega arith

    few_nets : count_nets d ≤ 1048576
    few_nets =
        let e = nets_counted d m root pearl.insts in
        let f = nets_few d true m (plain_pearl d true m pearl (λ other. absurd (let e : true ≡ false = other in cc))) in
        let g : length (pearl_drivers m) ≡ length (root_drivers d m) = ap length (pearl_root d m pearl.insts) in
        let h = length-append m.inputs (map cell_out m.cells) in
        let i = length-map m.cells cell_out in
        omega arith
