-- How many columns a judged design has.
use Rattle.std.proofs.Common.{◌≡◌, ℕ, ◌≤◌, nat_lt, min, cond, Bool, true, false, length, Some, None, refl, ◌∙◌, arith}
use Rattle.std.proofs.lemmas.Bool.{ltb-false}
use Rattle.std.proofs.lemmas.List.{length-map}
use Rattle.std.proofs.lemmas.List.Concat.{length-flat_map}
use Rattle.lid_base.specs.declared.which.Which.{Which}
use Rattle.lid_base.specs.declared.which.Which.TheVariants.{RootInsts, Depth, Cells, Nets}
use Rattle.lid_design.specs.declared.Design.{Design}
use Rattle.lid_design.specs.Columns.{column}
use Rattle.lid_design.specs.Models.{insts_of}
use Rattle.lid_design.specs.Elaboration.{Instance as PlaceOf, instances, model_nets, columns_at, columns, count_nets, count_cells, depth}
use Rattle.lid_check_rules.specs.declared.fault.CheckFault.TheVariants.{Limit}
use Rattle.lid_check_rules.specs.Conditions.{limits, over}
use Rattle.lid_check_drivers.specs.Judged.{IsJudged}
use Rattle.lid_check_drivers.proofs.Passing.{or_none, no_limit}
use Rattle.lid_base.proofs.Sums.{sum_same}

not_over : (greatest count : ℕ) (which : Which) → over greatest which count ≡ None → count ≤ greatest
not_over greatest count which none = by (nat_lt greatest count) refl none
  where
    by : (b : Bool) → nat_lt greatest count ≡ b → cond b (Some (Limit which (min count 4294967295))) None ≡ None → count ≤ greatest
    by true e some = absurd (let f : Some (Limit which (min count 4294967295)) ≡ None = some in cc)
    by false e is = ltb-false greatest count e

pub few_nets : (d : Design) → limits d ≡ None → count_nets d ≤ 1048576
unfolding limits
few_nets d none =
    let a = or_none (over 4096 RootInsts (length (insts_of d d.root))) _ none in
    let b = or_none (over 64 Depth (depth d)) _ a.1 in
    let e = or_none (over 262144 Cells (count_cells d)) _ b.1 in
    not_over 1048576 (count_nets d) Nets e.1

nets_counted : (d : Design) → length (columns d) ≡ count_nets d
unfolding columns count_nets
nets_counted d =
    length-flat_map (columns_at d) (instances d)
    ∙ sum_same (λ p. length (columns_at d p)) (λ (p : PlaceOf). length (model_nets d p.model)) (instances d) (λ p. length-map (model_nets d p.model) (column p.path))

pub few_columns : (d : Design) → IsJudged d → length (columns d) ≤ 1048576
few_columns d judged = let few = few_nets d (no_limit d judged.pass.ks judged.pass.after) in let same = nets_counted d in omega arith
