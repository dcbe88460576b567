-- No condition on models applies to a design of plain models.
use Rattle.std.proofs.Common.{◌≡◌, ◌⊎◌, ℕ, ◌≤◌, ◌==◌, min, Bool, true, false, ◌||◌, ◌&&◌, not, cond, is_none, List, [], ◌∷◌, ◌++◌, length, map, filter, find, Option, Some, None, option_map, option_and_then, slice_get, inl, inr, refl, sym, ◌∙◌, ap, subst, append_assoc}
use Rattle.std.specs.Option.{option_map_or}
use Rattle.std.specs.List.{IsDistinct, count_by, flat_map, enumerate_from}
use Rattle.std.specs.Str.{bytes_eq}
use Rattle.std.proofs.lemmas.Bool.{le-ltb, or_from}
use Rattle.std.proofs.lemmas.List.{append-nil}
use Rattle.lid_base.specs.Lists.{Among}
use Rattle.lid_base.proofs.Lists.{among_left, among_right, among_append, filter_among, map_among, among_map, flat_among, among_flat, enumerate_among, get_among}
use Rattle.lid_base.specs.declared.which.Which.{Which}
use Rattle.lid_base.specs.declared.which.Which.TheVariants.{RootInsts, Depth, Cells, Nets}
use Rattle.lid_design.specs.declared.Design.{Design}
use Rattle.lid_design.specs.declared.Model.{Model}
use Rattle.lid_design.specs.declared.Cell.{Cell}
use Rattle.lid_design.specs.declared.Cell.TheVariants.{Names, Latch}
use Rattle.lid_design.specs.declared.LatchKind.{LatchKind}
use Rattle.lid_design.specs.declared.Inst.{Inst}
use Rattle.lid_design.specs.Columns.{is_among, model_named, is_clock, data_inputs}
use Rattle.lid_design.specs.Models.{occurrences, is_port, port_drivers, inner_drivers, driver_names, read_names, cell_out, cell_reads, driven_by, read_by, number_named, insts_of, is_twice, formals, formal_of, actual_of, actual_names, actuals_bound_to, AreReached, HasNoRecursion}
use Rattle.lid_design.specs.Elaboration.{depth, count_cells, count_nets}
use Rattle.lid_check_rules.specs.declared.fault.CheckFault.{CheckFault}
use Rattle.lid_check_rules.specs.declared.fault.CheckFault.TheVariants.{UnknownModel, Limit}
use Rattle.lid_check_rules.specs.Conditions.{or_fault, first_told, in_models, in_insts, in_known, is_duplicate, duplicate_in, duplicate_name, unknown_at, unknown_model, unknown_formal_at, unknown_formal, formal_twice_at, formal_twice, unbound_at, unbound, two_drivers_in, two_drivers, is_undriven, undriven_in, undriven, is_misused, clock_use_in, clock_use, first_two, two_clocks, typed_cell, other_edge, mixed_edges, logic_in, root_logic, over, limits}
use Rattle.lid_check_rules.specs.Acceptance.{ModelsPass, fault_before_recursion, fault_after_recursion}
use Rattle.lid_check_drivers.proofs.Names.{to_among, from_among}
use Rattle.lid_check_laws.specs.Plain.{IsUnclocked, AreAmong, root_drivers}
use Rattle.lid_check_laws.proofs.Sets.{once_counted, not_twice, left_once, finds_none, filter_none, flat_none, among_none}
use Rattle.lid_check_laws.proofs.Alone.{data_among}

-- an instance that binds each input of its model, and ports alone, each once
pub record IsBoundInst (d : Design) (inst : Inst) : Type 0 where
  pub number : ℕ
  pub names : number_named d inst.model ≡ Some number
  pub sub : Model
  pub named : model_named d inst.model ≡ Some sub
  pub once : IsDistinct bytes_eq (formals inst)
  pub ports : AreAmong (formals inst) (sub.inputs ++ sub.outputs)
  pub bound : AreAmong sub.inputs (formals inst)

-- a model without clock names, each net of which is driven once
pub record IsPlainModel (d : Design) (is_root : Bool) (m : Model) : Type 0 where
  pub clocks : m.clocks ≡ []
  pub free : (net : List ℕ) → is_clock d m net ≡ false
  pub cells : (cell : Cell) → Among cell m.cells → IsUnclocked cell
  pub outputs : IsDistinct bytes_eq m.outputs
  pub apart : is_root ≡ false → (name : List ℕ) → Among name m.outputs → ¬ Among name m.inputs
  pub once : IsDistinct bytes_eq (root_drivers d m)
  pub driven : AreAmong (flat_map cell_reads m.cells ++ flat_map actual_names m.insts ++ m.outputs) (root_drivers d m)
  pub insts : (inst : Inst) → Among inst m.insts → IsBoundInst d inst

or_nones : (a b : Option CheckFault) → a ≡ None → b ≡ None → or_fault a b ≡ None
or_nones a b h g = ap (λ (x : Option CheckFault). or_fault x b) h ∙ g

told_none : {A : Type 0} (told : A → Option CheckFault) (xs : List A) → ((x : A) → Among x xs → told x ≡ None) → first_told told xs ≡ None
told_none told [] none = refl
told_none told (x ∷ xs) none = or_nones (told x) (first_told told xs) (none x (inl refl)) (told_none told xs (λ y among. none y (inr among)))

insts_none : (told : ℕ → Inst → Option CheckFault) (m : Model) → ((i : ℕ) (inst : Inst) → Among inst m.insts → told i inst ≡ None) → in_insts told m ≡ None
insts_none told m none = told_none (λ p. told p.0 p.1) (enumerate_from 0 m.insts) (λ p among. let at = enumerate_among 0 m.insts p among in none p.0 p.1 (get_among m.insts at.0 p.1 at.2))

known_none : (d : Design) (told : Model → Option CheckFault) (inst : Inst) (sub : Model) → model_named d inst.model ≡ Some sub → told sub ≡ None → in_known d told inst ≡ None
known_none d told inst sub named none = ap (option_and_then told) named ∙ none

found_none : {A : Type 0} (tell : A → CheckFault) (p : A → Bool) (xs : List A) → ((x : A) → Among x xs → p x ≡ false) → option_map tell (find p xs) ≡ None
found_none tell p xs none = ap (option_map tell) (finds_none p xs none)

over_none : (greatest : ℕ) (which : Which) (count : ℕ) → count ≤ greatest → over greatest which count ≡ None
over_none greatest which count le = ap (λ (b : Bool). cond b (Some (Limit which (min count 4294967295))) None) (le-ltb greatest count le)

-- the conditions on one model
module _ (d : Design) (is_root : Bool) (m : Model) (plain : IsPlainModel d is_root m) where
  no_clock_among : (name : List ℕ) → is_among name m.clocks ≡ false
  no_clock_among name = ap (is_among name) plain.clocks

  drivers_are : driver_names d m ≡ root_drivers d m
  unfolding driver_names
  drivers_are =
      ap (λ (clocks : List (List ℕ)). m.inputs ++ filter (λ net. not (is_among net m.inputs)) clocks ++ (map cell_out m.cells ++ flat_map (driven_by d) m.insts)) plain.clocks
      ∙ ap (λ (names : List (List ℕ)). names ++ (map cell_out m.cells ++ flat_map (driven_by d) m.insts)) (append-nil m.inputs)
      ∙ sym (append_assoc m.inputs (map cell_out m.cells) (flat_map (driven_by d) m.insts))

  input_once : (name : List ℕ) → count_by (bytes_eq name) m.inputs ≤ 1
  input_once name =
      left_once m.inputs (map cell_out m.cells) name
      (left_once (m.inputs ++ map cell_out m.cells) (flat_map (driven_by d) m.insts) name (once_counted (root_drivers d m) plain.once name))

  -- a net that is read is driven
  reads_driven : (name : List ℕ) → Among name (read_names d m) → Among name (root_drivers d m)
  unfolding read_names
  reads_driven name among = by (among_append name (flat_map cell_reads m.cells ++ flat_map (read_by d) m.insts) m.outputs among)
    where
      read : (inst : Inst) → Among name (read_by d inst) → Among name (actual_names inst)
      read inst here = of (model_named d inst.model) here
        where
          of : (o : Option Model) → Among name (option_map_or (λ m. actuals_bound_to (data_inputs d m) inst.binds) o []) → Among name (actual_names inst)
          of None none = absurd none
          of (Some sub) here =
              let found = map_among actual_of name (filter (λ b. is_among b.formal (data_inputs d sub)) inst.binds) here in
              subst (λ (x : List ℕ). Among x (actual_names inst)) (sym found.2) (among_map actual_of found.0 inst.binds (filter_among (λ b. is_among b.formal (data_inputs d sub)) found.0 inst.binds found.1).0)

      inner : Among name (flat_map cell_reads m.cells) ⊎ Among name (flat_map (read_by d) m.insts) → Among name (flat_map cell_reads m.cells ++ flat_map actual_names m.insts)
      inner (inl cells) = among_left name (flat_map cell_reads m.cells) (flat_map actual_names m.insts) cells
      inner (inr insts) =
          let found = flat_among (read_by d) name m.insts insts in
          among_right name (flat_map cell_reads m.cells) (flat_map actual_names m.insts) (among_flat actual_names found.0 name m.insts found.1 (read found.0 found.2))

      by : Among name (flat_map cell_reads m.cells ++ flat_map (read_by d) m.insts) ⊎ Among name m.outputs → Among name (root_drivers d m)
      by (inl here) = plain.driven name (among_left name (flat_map cell_reads m.cells ++ flat_map actual_names m.insts) m.outputs (inner (among_append name (flat_map cell_reads m.cells) (flat_map (read_by d) m.insts) here)))
      by (inr out) = plain.driven name (among_right name (flat_map cell_reads m.cells ++ flat_map actual_names m.insts) m.outputs out)

  duplicate_none : duplicate_in is_root m ≡ None
  duplicate_none = found_none _ (is_duplicate is_root m) (occurrences m) (λ name among.
      or_from (is_twice m.inputs name) _ (not_twice m.inputs name (input_once name))
      (or_from (is_twice m.outputs name) _ (not_twice m.outputs name (once_counted m.outputs plain.outputs name))
      (or_from (is_twice m.clocks name) _ (ap (λ (clocks : List (List ℕ)). is_twice clocks name) plain.clocks)
      (both name is_root plain.apart))))
    where
      parted : (name : List ℕ) → (¬ Among name m.inputs) ⊎ (¬ Among name m.outputs) → (is_among name m.outputs && (is_among name m.inputs || is_among name m.clocks)) ≡ false
      parted name (inl no_input) = and_false (is_among name m.outputs) (is_among name m.inputs || is_among name m.clocks) (or_from (is_among name m.inputs) (is_among name m.clocks) (among_none name m.inputs no_input) (no_clock_among name))
        where
          and_false : (a b : Bool) → b ≡ false → (a && b) ≡ false
          and_false true b h = h
          and_false false b h = refl
      parted name (inr no_output) = ap (λ (b : Bool). b && (is_among name m.inputs || is_among name m.clocks)) (among_none name m.outputs no_output)

      both : (name : List ℕ) (r : Bool) → (r ≡ false → (name : List ℕ) → Among name m.outputs → ¬ Among name m.inputs) → (not r && (is_among name m.outputs && (is_among name m.inputs || is_among name m.clocks))) ≡ false
      both name true apart = refl
      both name false apart = parted name (out (is_among name m.outputs) refl)
        where
          out : (b : Bool) → is_among name m.outputs ≡ b → (¬ Among name m.inputs) ⊎ (¬ Among name m.outputs)
          out true e = inl (apart refl name (to_among name m.outputs e))
          out false e = inr (λ among. absurd (let f : true ≡ false = sym (from_among name m.outputs among) ∙ e in cc))

  unknown_none : in_insts (unknown_at d m) m ≡ None
  unknown_none = insts_none (unknown_at d m) m (λ i inst among. ap (λ (o : Option ℕ). cond (is_none o) (Some (UnknownModel m.name i inst.model)) None) (plain.insts inst among).names)

  formal_none : in_insts (unknown_formal_at d m) m ≡ None
  formal_none = insts_none (unknown_formal_at d m) m (λ i inst among.
      let bound = plain.insts inst among in
      known_none d _ inst bound.sub bound.named (found_none _ (λ b. not (is_port bound.sub b.formal)) inst.binds (λ b here. ap not (port bound.sub b.formal (among_append b.formal bound.sub.inputs bound.sub.outputs (bound.ports b.formal (among_map formal_of b inst.binds here)))))))
    where
      right_true : (a b : Bool) → b ≡ true → (a || b) ≡ true
      right_true true b h = refl
      right_true false b h = h

      port : (sub : Model) (name : List ℕ) → Among name sub.inputs ⊎ Among name sub.outputs → is_port sub name ≡ true
      port sub name (inl input) = ap (λ (b : Bool). b || (is_among name sub.outputs || is_among name sub.clocks)) (from_among name sub.inputs input)
      port sub name (inr output) = right_true (is_among name sub.inputs) _ (ap (λ (b : Bool). b || is_among name sub.clocks) (from_among name sub.outputs output))

  twice_none : in_insts (formal_twice_at m) m ≡ None
  twice_none = insts_none (formal_twice_at m) m (λ i inst among. found_none _ (is_twice (formals inst)) (formals inst) (λ formal here. not_twice (formals inst) formal (once_counted (formals inst) (plain.insts inst among).once formal)))

  unbound_none : in_insts (unbound_at d m) m ≡ None
  unbound_none = insts_none (unbound_at d m) m (λ i inst among.
      let bound = plain.insts inst among in
      known_none d _ inst bound.sub bound.named (found_none _ (λ name. not (is_among name (formals inst))) (data_inputs d bound.sub) (λ name here. ap not (from_among name (formals inst) (bound.bound name (data_among d bound.sub name here))))))

  two_none : two_drivers_in d m ≡ None
  two_none = found_none _ (is_twice (driver_names d m)) (occurrences m) (λ name among. ap (λ (names : List (List ℕ)). is_twice names name) drivers_are ∙ not_twice (root_drivers d m) name (once_counted (root_drivers d m) plain.once name))

  undriven_none : undriven_in d m ≡ None
  undriven_none = found_none _ (is_undriven d m) (occurrences m) (λ name among. by name (is_among name (read_names d m)) refl)
    where
      by : (name : List ℕ) (b : Bool) → is_among name (read_names d m) ≡ b → (b && not (is_among name (driver_names d m))) ≡ false
      by name false e = refl
      by name true e = ap not (ap (is_among name) drivers_are ∙ from_among name (root_drivers d m) (reads_driven name (to_among name (read_names d m) e)))

  misused_none : clock_use_in d m ≡ None
  misused_none = found_none _ (is_misused d m) (occurrences m) (λ name among. ap (λ (b : Bool). b && (not (is_among name m.inputs || is_among name m.clocks) || (is_among name (read_names d m) || is_among name (inner_drivers d m)))) (plain.free name))

  untyped : flat_map (typed_cell m) m.cells ≡ []
  untyped = flat_none (typed_cell m) m.cells (λ cell among. by cell (plain.cells cell among))
    where
      by : (cell : Cell) → IsUnclocked cell → typed_cell m cell ≡ []
      by (Names inputs out cover) unclocked = refl
      by (Latch input out kind control init) unclocked = ap (λ (k : LatchKind). typed_cell m (Latch input out k control init)) unclocked.0

  clocks_none : first_two (filter (is_clock d m) (port_drivers m)) ≡ None
  clocks_none = ap first_two (filter_none (is_clock d m) (port_drivers m) (λ name among. plain.free name))

-- no condition on models applies where all reached models are plain
module _ (d : Design) (ks : List ℕ) (plain : (k : ℕ) → Among k ks → (m : Model) × (slice_get d.models k ≡ Some m) × IsPlainModel d (k == d.root) m) where
  models_none : (told : Model → Option CheckFault) → ((k : ℕ) (m : Model) → IsPlainModel d (k == d.root) m → told m ≡ None) → in_models told d ks ≡ None
  models_none told none = told_none (λ k. option_and_then told (slice_get d.models k)) ks (λ k among. let at = plain k among in ap (option_and_then told) at.1 ∙ none k at.0 at.2)

  before_none : fault_before_recursion d ks ≡ None
  unfolding fault_before_recursion duplicate_name unknown_model
  before_none =
      or_nones (duplicate_name d ks) (unknown_model d ks)
      (told_none (λ k. option_and_then (duplicate_in (k == d.root)) (slice_get d.models k)) ks (λ k among. let at = plain k among in ap (option_and_then (duplicate_in (k == d.root))) at.1 ∙ duplicate_none d (k == d.root) at.0 at.2))
      (models_none (λ m. in_insts (unknown_at d m) m) (λ k m is. unknown_none d (k == d.root) m is))

  typed_none : mixed_edges d ks ≡ None
  unfolding mixed_edges
  typed_none = ap other_edge (flat_none (λ k. option_map_or (λ m. flat_map (typed_cell m) m.cells) (slice_get d.models k) []) ks (λ k among. let at = plain k among in ap (λ (o : Option Model). option_map_or (λ m. flat_map (typed_cell m) m.cells) o []) at.1 ∙ untyped d (k == d.root) at.0 at.2))

  module _ (root : Among d.root ks) (logic : (m : Model) → slice_get d.models d.root ≡ Some m → logic_in m ≡ None) (insts : length (insts_of d d.root) ≤ 4096) (deep : depth d ≤ 64) (cells : count_cells d ≤ 262144) (nets : count_nets d ≤ 1048576) where
    at_root : (m : Model) × (slice_get d.models d.root ≡ Some m) × IsPlainModel d (d.root == d.root) m
    at_root = plain d.root root

    limits_none : limits d ≡ None
    unfolding limits
    limits_none =
        or_nones (over 4096 RootInsts (length (insts_of d d.root))) _ (over_none 4096 RootInsts (length (insts_of d d.root)) insts)
        (or_nones (over 64 Depth (depth d)) _ (over_none 64 Depth (depth d) deep)
        (or_nones (over 262144 Cells (count_cells d)) _ (over_none 262144 Cells (count_cells d) cells)
        (over_none 1048576 Nets (count_nets d) nets)))

    clocks_of_root : two_clocks d ≡ None
    unfolding two_clocks
    clocks_of_root = ap (option_and_then (λ m. first_two (filter (is_clock d m) (port_drivers m)))) at_root.1 ∙ clocks_none d (d.root == d.root) at_root.0 at_root.2

    logic_of_root : root_logic d ≡ None
    unfolding root_logic
    logic_of_root = ap (option_and_then logic_in) at_root.1 ∙ logic at_root.0 at_root.1

    after_none : fault_after_recursion d ks ≡ None
    unfolding fault_after_recursion unknown_formal formal_twice unbound two_drivers undriven clock_use
    after_none =
        or_nones (unknown_formal d ks) _ (models_none (λ m. in_insts (unknown_formal_at d m) m) (λ k m is. formal_none d (k == d.root) m is))
        (or_nones (formal_twice d ks) _ (models_none (λ m. in_insts (formal_twice_at m) m) (λ k m is. twice_none d (k == d.root) m is))
        (or_nones (unbound d ks) _ (models_none (λ m. in_insts (unbound_at d m) m) (λ k m is. unbound_none d (k == d.root) m is))
        (or_nones (two_drivers d ks) _ (models_none (two_drivers_in d) (λ k m is. two_none d (k == d.root) m is))
        (or_nones (undriven d ks) _ (models_none (undriven_in d) (λ k m is. undriven_none d (k == d.root) m is))
        (or_nones (clock_use d ks) _ (models_none (clock_use_in d) (λ k m is. misused_none d (k == d.root) m is))
        (or_nones (two_clocks d) _ clocks_of_root
        (or_nones (mixed_edges d ks) _ typed_none
        (or_nones (root_logic d) _ logic_of_root limits_none))))))))

    pub models_pass : AreReached d ks → HasNoRecursion d → ModelsPass d
    models_pass reached flat = record { ks = ks; reached = reached; before = before_none; flat = flat; after = after_none }
