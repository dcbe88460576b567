-- What is counted over a plain root and its instances.
use Rattle.std.proofs.Common.{◌≡◌, ℕ, zero, suc, ◌+◌, ◌<◌, ◌≤◌, true, false, List, [], ◌∷◌, length, map, Option, Some, slice_get, refl, sym, ◌∙◌, ap, arith}
use Rattle.std.specs.Option.{option_map_or}
use Rattle.std.specs.List.{flat_map, enumerate_from, sum_by}
use Rattle.std.proofs.lemmas.List.{length-append, length-map}
use Rattle.std.proofs.lemmas.List.Sums.{sum_by-cons}
use Rattle.lid_base.specs.Lists.{Among}
use Rattle.lid_base.proofs.Lists.{among_get, enumerate_among}
use Rattle.lid_design.specs.declared.Design.{Design}
use Rattle.lid_design.specs.declared.Model.{Model}
use Rattle.lid_design.specs.declared.Inst.{Inst}
use Rattle.lid_design.specs.Columns.{model_named}
use Rattle.lid_design.specs.Models.{cell_out, nets, insts_of, number_named}
use Rattle.lid_design.specs.Elaboration.{Instance, instance, instances_in, instances, model_nets, own_cell_count, over_instances, count_cells, count_nets}
use Rattle.lid_design.specs.WellFormed.{IsWellFormed}
use Rattle.lid_check_laws.specs.Plain.{pearl_drivers, root_drivers, IsPlainRoot, cells_below, nets_below}
use Rattle.lid_check_laws.proofs.Nets.{nets_few}
use Rattle.lid_check_laws.proofs.Lone.{pearl_root, plain_pearl}
use Rattle.lid_check_laws.proofs.Below.{IsSub, sub_of, sub_insts, insts_are}
use Rattle.lid_check_laws.proofs.Assembled.{root_plain}
use Rattle.lid_base.proofs.Options.{same_some}
use Rattle.lid_base.proofs.Sums.{sum_flat, sum_le}

sum_numbered : (h : Inst → ℕ) (i : ℕ) (insts : List Inst) → sum_by (λ (p : ℕ × Inst). h p.1) (enumerate_from i insts) ≡ sum_by h insts
sum_numbered h i [] = refl
sum_numbered h i (x ∷ xs) =
    let one = sum_by-cons (λ (p : ℕ × Inst). h p.1) (i, x) (enumerate_from (i + 1) xs) in
    let later = sum_numbered h (i + 1) xs in
    let whole = sum_by-cons h x xs in
    omega arith

module _ (d : Design) (formed : IsWellFormed d) (m : Model) (root : slice_get d.models d.root ≡ Some m) (plain : IsPlainRoot d m) where
  -- what is counted in one instance
  one_counted : (f : Design → ℕ → ℕ) (n i k : ℕ) → IsSub d m i k → sum_by (λ (p : Instance). f d p.model) (instances_in n d (i ∷ []) k) ≡ f d k
  one_counted f n i k sub = ap (sum_by (λ (p : Instance). f d p.model)) (alone n) ∙ single
    where
      alone : (n : ℕ) → instances_in n d (i ∷ []) k ≡ instance (i ∷ []) k ∷ []
      alone zero = refl
      alone (suc n) = ap (λ (insts : List Inst). instance (i ∷ []) k ∷ flat_map (λ p. option_map_or (instances_in n d (p.0 ∷ i ∷ [])) (number_named d p.1.model) []) (enumerate_from 0 insts)) (sub_insts d formed m root plain i k sub)

      single : sum_by (λ (p : Instance). f d p.model) (instance (i ∷ []) k ∷ []) ≡ f d k
      single = let e = sum_by-cons (λ (p : Instance). f d p.model) (instance (i ∷ []) k) [] in omega arith

  counted : (f : Design → ℕ → ℕ) (h : Inst → ℕ) → ((i k : ℕ) (sub : IsSub d m i k) → f d k ≡ h sub.inst) → over_instances f d ≡ f d d.root + sum_by h m.insts
  unfolding instances
  counted f h each = by (length d.models) (let e = formed.rooted in omega arith)
    where
      here : (n : ℕ) (p : ℕ × Inst) → Among p (enumerate_from 0 m.insts) → sum_by (λ (q : Instance). f d q.model) (option_map_or (instances_in n d (p.0 ∷ [])) (number_named d p.1.model) []) ≡ h p.1
      here n p among =
          let at = enumerate_among 0 m.insts p among in
          let number : p.0 ≡ at.0 = (let e = at.1 in omega arith) in
          let place : slice_get m.insts p.0 ≡ Some p.1 = ap (slice_get m.insts) number ∙ at.2 in
          let sub = sub_of d formed m root plain p.0 p.1 place in
          let inst_is : sub.1.inst ≡ p.1 = same_some (slice_get m.insts p.0) sub.1.inst p.1 sub.1.at place in
          ap (λ (o : Option ℕ). sum_by (λ (q : Instance). f d q.model) (option_map_or (instances_in n d (p.0 ∷ [])) o [])) (ap (λ (inst : Inst). number_named d inst.model) (sym inst_is) ∙ sub.1.names)
          ∙ one_counted f n p.0 sub.0 sub.1
          ∙ each p.0 sub.0 sub.1
          ∙ ap h inst_is

      by : (n : ℕ) → 0 < n → sum_by (λ (p : Instance). f d p.model) (instances_in n d [] d.root) ≡ f d d.root + sum_by h m.insts
      by zero none = absurd (omega arith)
      by (suc n) some =
          let first = sum_by-cons (λ (p : Instance). f d p.model) (instance [] d.root) (flat_map (λ p. option_map_or (instances_in n d (p.0 ∷ [])) (number_named d p.1.model) []) (enumerate_from 0 (insts_of d d.root))) in
          let all = ap (λ (insts : List Inst). sum_by (λ (p : Instance). f d p.model) (flat_map (λ p. option_map_or (instances_in n d (p.0 ∷ [])) (number_named d p.1.model) []) (enumerate_from 0 insts))) (insts_are d formed m root plain) in
          let flat = sum_flat (λ (q : Instance). f d q.model) (λ (p : ℕ × Inst). option_map_or (instances_in n d (p.0 ∷ [])) (number_named d p.1.model) []) (λ (p : ℕ × Inst). h p.1) (enumerate_from 0 m.insts) (here n) in
          let bare = sum_numbered h 0 m.insts in
          omega arith

  pub cells_are : count_cells d ≡ length m.cells + length m.insts + sum_by (cells_below d) m.insts
  unfolding count_cells
  cells_are =
      let all = counted own_cell_count (cells_below d) each in
      let top : own_cell_count d d.root ≡ length m.cells + length m.insts = ap (λ (o : Option Model). option_map_or (λ m. length m.cells + length m.insts) o 0) root in
      omega arith
    where
      each : (i k : ℕ) (sub : IsSub d m i k) → own_cell_count d k ≡ cells_below d sub.inst
      each i k sub =
          let a : own_cell_count d k ≡ length sub.sub.cells + length sub.sub.insts = ap (λ (o : Option Model). option_map_or (λ m. length m.cells + length m.insts) o 0) sub.here in
          let b : length sub.sub.insts ≡ 0 = ap length sub.plain.pearl.insts in
          let e : cells_below d sub.inst ≡ length sub.sub.cells = ap (λ (o : Option Model). option_map_or (λ m. length m.cells) o 0) sub.named in
          omega arith

  pub nets_fit : count_nets d ≤ length (root_drivers d m) + sum_by (nets_below d) m.insts
  unfolding count_nets
  nets_fit =
      let all = counted (λ d k. length (model_nets d k)) (λ inst. option_map_or (λ sub. length (nets d sub)) (model_named d inst.model) 0) each in
      let top : length (model_nets d d.root) ≡ length (nets d m) = ap (λ (o : Option Model). length (option_map_or (nets d) o [])) root in
      let few = nets_few d true m (root_plain d formed m root plain true refl) in
      let less = sum_le (λ (inst : Inst). option_map_or (λ sub. length (nets d sub)) (model_named d inst.model) 0) (nets_below d) m.insts below in
      omega arith
    where
      each : (i k : ℕ) (sub : IsSub d m i k) → length (model_nets d k) ≡ option_map_or (λ sub. length (nets d sub)) (model_named d sub.inst.model) 0
      each i k sub =
          let a : length (model_nets d k) ≡ length (nets d sub.sub) = ap (λ (o : Option Model). length (option_map_or (nets d) o [])) sub.here in
          let b : option_map_or (λ sub. length (nets d sub)) (model_named d sub.inst.model) 0 ≡ length (nets d sub.sub) = ap (λ (o : Option Model). option_map_or (λ sub. length (nets d sub)) o 0) sub.named in
          a ∙ sym b

      below : (inst : Inst) → Among inst m.insts → option_map_or (λ sub. length (nets d sub)) (model_named d inst.model) 0 ≤ nets_below d inst
      below inst among =
          let at = among_get m.insts inst among in
          let sub = (sub_of d formed m root plain at.0 inst at.1).1 in
          let inst_is : sub.inst ≡ inst = same_some (slice_get m.insts at.0) sub.inst inst sub.at at.1 in
          let named : model_named d inst.model ≡ Some sub.sub = ap (λ (inst : Inst). model_named d inst.model) (sym inst_is) ∙ sub.named in
          let a : option_map_or (λ sub. length (nets d sub)) (model_named d inst.model) 0 ≡ length (nets d sub.sub) = ap (λ (o : Option Model). option_map_or (λ sub. length (nets d sub)) o 0) named in
          let b : nets_below d inst ≡ length sub.sub.inputs + length sub.sub.cells = ap (λ (o : Option Model). option_map_or (λ m. length m.inputs + length m.cells) o 0) named in
          let few = nets_few d true sub.sub (plain_pearl d true sub.sub sub.plain.pearl (λ other. absurd (let e : true ≡ false = other in cc))) in
          let g : length (pearl_drivers sub.sub) ≡ length (root_drivers d sub.sub) = ap length (pearl_root d sub.sub sub.plain.pearl.insts) in
          let h = length-append sub.sub.inputs (map cell_out sub.sub.cells) in
          let i = length-map sub.sub.cells cell_out in
          omega arith
