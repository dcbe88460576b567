-- A plain root with instances of plain models meets the conditions on models.
use Rattle.std.proofs.Common.{◌≡◌, ◌⊎◌, ℕ, ◌≤◌, ◌==◌, Bool, true, false, not, ◌||◌, cond, find, [], ◌∷◌, length, Some, None, option_map, slice_get, inl, inr, refl, sym, ◌∙◌, ap, subst, arith}
use Rattle.std.proofs.lemmas.Bool.{eq-eqb}
use Rattle.lid_base.specs.Lists.{Among}
use Rattle.lid_base.proofs.Lists.{among_get, get_among}
use Rattle.lid_design.specs.declared.Design.{Design}
use Rattle.lid_design.specs.declared.Model.{Model}
use Rattle.lid_design.specs.declared.Cell.{Cell}
use Rattle.lid_design.specs.declared.Inst.{Inst}
use Rattle.lid_design.specs.Models.{cell_out, is_buffer, is_constant, insts_of, IsReached}
use Rattle.lid_design.specs.Elaboration.{count_cells, count_nets}
use Rattle.lid_design.specs.WellFormed.{IsWellFormed}
use Rattle.lid_check_rules.specs.declared.fault.CheckFault.TheVariants.{RootLogic}
use Rattle.lid_check_rules.specs.Conditions.{logic_in}
use Rattle.lid_check_rules.specs.Acceptance.{ModelsPass}
use Rattle.lid_check_laws.specs.Plain.{AreParted, IsPlainInst, IsPlainRoot}
use Rattle.lid_check_laws.proofs.Sets.{finds_none}
use Rattle.lid_check_laws.proofs.Sound.{IsBoundInst, IsPlainModel, models_pass}
use Rattle.lid_check_laws.proofs.Lone.{plain_pearl}
use Rattle.lid_check_laws.proofs.Below.{IsSub, sub_of, leads_to, no_recursion, used, used_are, root_used, insts_are, shallow, root_unclocked, root_free}
use Rattle.lid_base.proofs.Options.{same_some}

no_logic : (m : Model) → ((cell : Cell) → Among cell m.cells → (is_buffer cell || is_constant cell) ≡ true) → logic_in m ≡ None
no_logic m logic = by (length m.insts == 0) (ap (option_map (λ cell. RootLogic (cell_out cell))) (finds_none (λ cell. not (is_buffer cell || is_constant cell)) m.cells (λ cell among. ap not (logic cell among))))
  where
    by : (b : Bool) → option_map (λ cell. RootLogic (cell_out cell)) (find (λ cell. not (is_buffer cell || is_constant cell)) m.cells) ≡ None → cond b None (option_map (λ cell. RootLogic (cell_out cell)) (find (λ cell. not (is_buffer cell || is_constant cell)) m.cells)) ≡ None
    by true none = refl
    by false none = none

module _ (d : Design) (formed : IsWellFormed d) (m : Model) (root : slice_get d.models d.root ≡ Some m) (plain : IsPlainRoot d m) where
  bound_inst : (inst : Inst) → Among inst m.insts → IsBoundInst d inst
  bound_inst inst among =
      let at = among_get m.insts inst among in
      let found = sub_of d formed m root plain at.0 inst at.1 in
      let inst_is : found.1.inst ≡ inst = same_some (slice_get m.insts at.0) found.1.inst inst found.1.at at.1 in
      subst (IsBoundInst d) inst_is (record { number = found.0; names = found.1.names; sub = found.1.sub; named = found.1.named; once = found.1.plain.once; ports = found.1.plain.ports; bound = found.1.plain.bound })

  pub root_plain : (is_root : Bool) → is_root ≡ true → IsPlainModel d is_root m
  root_plain is_root here = record {
    clocks = plain.clocks;
    free = root_free d formed m root plain;
    cells = root_unclocked d formed m root plain;
    outputs = plain.outputs;
    apart = λ other. absurd (let e : true ≡ false = sym here ∙ other in cc);
    once = plain.once;
    driven = plain.driven;
    insts = bound_inst;
  }

  module _ (parted : (inst : Inst) (sub : Model) → Among inst m.insts → IsPlainInst d inst sub → AreParted sub) where
    plain_at : (k : ℕ) → IsReached d k → (x : Model) × (slice_get d.models k ≡ Some x) × IsPlainModel d (k == d.root) x
    plain_at k reached = by (leads_to d formed m root plain reached.0 k reached.1)
      where
        by : ((reached.0 ≡ []) × (k ≡ d.root)) ⊎ ((i : ℕ) × (reached.0 ≡ i ∷ []) × IsSub d m i k) → (x : Model) × (slice_get d.models k ≡ Some x) × IsPlainModel d (k == d.root) x
        by (inl top) = (m, ap (slice_get d.models) top.1 ∙ root, root_plain (k == d.root) (eq-eqb k d.root top.1))
        by (inr below) =
            let sub = below.2 in
            let part = parted sub.inst sub.sub (get_among m.insts below.0 sub.inst sub.at) sub.plain in
            (sub.sub, sub.here, plain_pearl d (k == d.root) sub.sub sub.plain.pearl (λ other. part))

    pub root_passes : count_cells d ≤ 262144 → count_nets d ≤ 1048576 → ModelsPass d
    root_passes cells nets =
        models_pass d (used d formed m root plain) (λ k among. plain_at k (((used_are d formed m root plain).each k).0 among)) (root_used d formed m root plain)
        (λ x here. let same : x ≡ m = same_some (slice_get d.models d.root) x m here root in ap logic_in same ∙ no_logic m plain.logic)
        (let few = plain.few in let long : length (insts_of d d.root) ≡ length m.insts = ap length (insts_are d formed m root plain) in omega arith)
        (shallow d formed m root plain) cells nets (used_are d formed m root plain) (no_recursion d formed m root plain)
