-- The limits, by what the recurrence on the models of a design counts.
use Rattle.lid_check_rules.specs.Acceptance.{fault_after_recursion, ModelsPass}
use Rattle.std.specs.Option.{option_map_or}
use Rattle.lid_design.specs.declared.Model.{Model}
use Rattle.lid_design.specs.declared.Cell.{Cell}
use Rattle.lid_design.specs.Elaboration.{count_latches, count_defaulted, own_cell_count, count_in, is_latch, is_defaulted, instances, depth, count_cells, count_nets, over_instances}
use Rattle.std.proofs.lemmas.Bool.{ltb-false}
use Rattle.lid_check_rules.specs.declared.fault.CheckFault.TheVariants.{Limit}
use Rattle.lid_check_models.specs.declared.counts.Measure.TheVariants.{Latches, Defaulted, Depth, Cells, Nets}
use Rattle.lid_check_models.specs.Counts.{count_at_root}
use Rattle.std.proofs.lemmas.List.Sums.{sum_by-cons, sum_by-le-sum_by}
use Rattle.lid_check_models.proofs.Placed.{sum_is, depth_is}
use Rattle.std.proofs.Common.{min, nat_lt, Bool, true, false, count_by, cond, ◌≤◌, ◌≡◌, ℕ, suc, ◌+◌, List, [], ◌∷◌, length, Option, Some, None, slice_get, refl, ◌∙◌, ap, arith}
use Rattle.lid_base.specs.declared.which.Which.TheVariants as which
use Rattle.lid_design.specs.declared.Design.{Design}
use Rattle.lid_design.specs.Models.{insts_of}
use Rattle.lid_check_rules.specs.declared.fault.CheckFault.{CheckFault}
use Rattle.lid_check_rules.specs.Conditions.{unknown_formal, formal_twice, unbound, two_drivers, undriven, clock_use, two_clocks, mixed_edges, root_logic, over, limits, or_fault}
use Rattle.lid_check_models.specs.Limits.{total_limit, wide_limits, deep_limits}

-- the limits, by the recurrence on models
pub limits_are : (d : Design) → limits d ≡ or_fault (over 4096 which.RootInsts (length (insts_of d d.root))) (deep_limits d)
unfolding limits deep_limits wide_limits total_limit count_cells count_nets
limits_are d =
    let cells : count_cells d ≡ count_at_root Cells d = sum_is Cells d (λ x a. refl) in
    let nets : count_nets d ≡ count_at_root Nets d = sum_is Nets d (λ x a. refl) in
    ap (λ (n : ℕ). or_fault (over 4096 which.RootInsts (length (insts_of d d.root))) (or_fault (over 64 which.Depth n) (or_fault (over 262144 which.Cells (count_cells d)) (over 1048576 which.Nets (count_nets d))))) (depth_is d)
    ∙ ap (λ (n : ℕ). or_fault (over 4096 which.RootInsts (length (insts_of d d.root))) (or_fault (over 64 which.Depth (count_at_root Depth d)) (or_fault (over 262144 which.Cells n) (over 1048576 which.Nets (count_nets d))))) cells
    ∙ ap (λ (n : ℕ). or_fault (over 4096 which.RootInsts (length (insts_of d d.root))) (or_fault (over 64 which.Depth (count_at_root Depth d)) (or_fault (over 262144 which.Cells (count_at_root Cells d)) (over 1048576 which.Nets n)))) nets

counted_within : (p : Cell → Bool) (cells : List Cell) → count_by p cells ≤ length cells
counted_within p [] = omega arith
counted_within p (cell ∷ cells) = let cons : count_by p (cell ∷ cells) ≡ cond (p cell) 1 0 + count_by p cells = sum_by-cons (λ c. cond (p c) 1 0) cell cells in let all = by (p cell) (counted_within p cells) in omega arith
  where
    by : (b : Bool) → count_by p cells ≤ length cells → cond b 1 0 + count_by p cells ≤ suc (length cells)
    by true e = omega arith
    by false e = omega arith

cells_within : (p : Cell → Bool) (d : Design) (k : ℕ) → count_in p d k ≤ own_cell_count d k
cells_within p d k = by (slice_get d.models k)
  where
    by : (o : Option Model) → option_map_or (λ m. count_by p m.cells) o 0 ≤ option_map_or (λ m. length m.cells + length m.insts) o 0
    by None = omega arith
    by (Some m) = let e = counted_within p m.cells in omega arith

pub within_cells : (p : Cell → Bool) (d : Design) → over_instances (count_in p) d ≤ count_cells d
unfolding count_cells
within_cells p d = sum_by-le-sum_by (λ q. count_in p d q.model) (λ q. own_cell_count d q.model) (instances d) (λ q. cells_within p d q.model)

passed : (greatest count : ℕ) (b : Bool) → nat_lt greatest count ≡ b → cond b (Some (Limit which.Cells (min count 4294967295))) None ≡ None → count ≤ greatest
passed greatest count true e none = absurd (let f : Some (Limit which.Cells (min count 4294967295)) ≡ None = none in cc)
passed greatest count false e none = ltb-false greatest count e

pub last_none : (a b c e f g h i j rest : Option CheckFault) → or_fault a (or_fault b (or_fault c (or_fault e (or_fault f (or_fault g (or_fault h (or_fault i (or_fault j rest)))))))) ≡ None → rest ≡ None
last_none None None None None None None None None None rest none = none
last_none (Some x) b c e f g h i j rest none = absurd (let bad : Some x ≡ None = none in cc)
last_none None (Some x) c e f g h i j rest none = absurd (let bad : Some x ≡ None = none in cc)
last_none None None (Some x) e f g h i j rest none = absurd (let bad : Some x ≡ None = none in cc)
last_none None None None (Some x) f g h i j rest none = absurd (let bad : Some x ≡ None = none in cc)
last_none None None None None (Some x) g h i j rest none = absurd (let bad : Some x ≡ None = none in cc)
last_none None None None None None (Some x) h i j rest none = absurd (let bad : Some x ≡ None = none in cc)
last_none None None None None None None (Some x) i j rest none = absurd (let bad : Some x ≡ None = none in cc)
last_none None None None None None None None (Some x) j rest none = absurd (let bad : Some x ≡ None = none in cc)
last_none None None None None None None None None (Some x) rest none = absurd (let bad : Some x ≡ None = none in cc)

third_none : (a b c rest : Option CheckFault) → or_fault a (or_fault b (or_fault c rest)) ≡ None → c ≡ None
third_none None None None rest none = refl
third_none None None (Some x) rest none = none
third_none None (Some x) c rest none = absurd (let bad : Some x ≡ None = none in cc)
third_none (Some x) b c rest none = absurd (let bad : Some x ≡ None = none in cc)

pub few_cells : (d : Design) (ks : List ℕ) → fault_after_recursion d ks ≡ None → count_cells d ≤ 262144
unfolding fault_after_recursion limits
few_cells d ks none =
    let none_of : limits d ≡ None = last_none (unknown_formal d ks) (formal_twice d ks) (unbound d ks) (two_drivers d ks) (undriven d ks) (clock_use d ks) (two_clocks d) (mixed_edges d ks) (root_logic d) (limits d) none in
    passed 262144 (count_cells d) (nat_lt 262144 (count_cells d)) refl (third_none (over 4096 which.RootInsts (length (insts_of d d.root))) (over 64 which.Depth (depth d)) (over 262144 which.Cells (count_cells d)) (over 1048576 which.Nets (count_nets d)) none_of)

-- a count of cells of a design that passes is at most that of all its cells, so that it is not cut
few_of : (p : Cell → Bool) (d : Design) (n : ℕ) → ModelsPass d → over_instances (count_in p) d ≡ n → min n 4294967295 ≡ over_instances (count_in p) d
few_of p d n pass is = let few = few_cells d pass.ks pass.after in let within = within_cells p d in omega arith

pub latches_are : (d : Design) → ModelsPass d → min (count_at_root Latches d) 4294967295 ≡ count_latches d
unfolding count_latches
latches_are d pass = few_of is_latch d (count_at_root Latches d) pass (sum_is Latches d (λ x a. refl))

pub defaulted_are : (d : Design) → ModelsPass d → min (count_at_root Defaulted d) 4294967295 ≡ count_defaulted d
unfolding count_defaulted
defaulted_are d pass = few_of is_defaulted d (count_at_root Defaulted d) pass (sum_is Defaulted d (λ x a. refl))
