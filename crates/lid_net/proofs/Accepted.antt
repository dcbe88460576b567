-- What acceptance says of pearls and of their ports.
use Rattle.std.proofs.Common.{◌≡◌, ◌<◌, ◌≤◌, ◌⊎◌, ◌+◌, ℕ, zero, suc, Bool, true, false, cond, eqb, min, List, [], ◌∷◌, length, map, Option, Some, None, slice_get, inl, inr, refl, sym, ◌∙◌, ap, subst, arith}
use Rattle.std.specs.Prelude.{nat_lt}
use Rattle.std.proofs.lemmas.Bool.{cases_lt}
use Rattle.std.specs.List.{AllByRecursion}
use Rattle.lid_base.specs.declared.which.Which.{Which}
use Rattle.lid_base.specs.declared.which.Which.TheVariants.{RootInsts}
use Rattle.lid_design.specs.declared.Design.{Design}
use Rattle.lid_design.specs.Models.{insts_of}
use Rattle.lid_design.specs.Loops.{pearls}
use Rattle.lid_check_parts.proofs.Finding.{whole_pearls, inst_count}
use Rattle.lid_check_rules.specs.declared.fault.CheckFault.{CheckFault}
use Rattle.lid_check_rules.specs.declared.fault.CheckFault.TheVariants.{Limit}
use Rattle.lid_check_rules.specs.Conditions.{or_fault, over, limits}
use Rattle.lid_check_rules.specs.Acceptance.{ModelsPass}
use Rattle.lid_check_drivers.proofs.Passing.{or_none, no_limit}

not_over : (greatest count : ℕ) (which : Which) → over greatest which count ≡ None → count ≤ greatest
not_over greatest count which none = by (nat_lt greatest count) refl none
  where
    by : (b : Bool) → nat_lt greatest count ≡ b → cond b (Some (Limit which (min count 4294967295))) None ≡ None → count ≤ greatest
    by true e h = absurd (let f : Some (Limit which (min count 4294967295)) ≡ None = h in cc)
    by false e h = grind (arith, e)

few_insts : (d : Design) → limits d ≡ None → length (insts_of d d.root) ≤ 4096
unfolding limits
few_insts d none = not_over 4096 (length (insts_of d d.root)) RootInsts (or_none (over 4096 RootInsts (length (insts_of d d.root))) _ none).0

pub few_pearls : (d : Design) → ModelsPass d → length (pearls d) ≤ 4096
few_pearls d pass = by (cases_lt 0 (length (insts_of d d.root)))
  where
    by : (0 < length (insts_of d d.root)) ⊎ (length (insts_of d d.root) ≤ 0) → length (pearls d) ≤ 4096
    by (inl some) = let few = few_insts d (no_limit d pass.ks pass.after) in let count = inst_count d some in omega arith
    by (inr none) = let one = ap length (whole_pearls d (omega arith)) in omega arith
