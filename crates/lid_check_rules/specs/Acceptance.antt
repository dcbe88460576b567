-- Which of the conditions on models is the first that applies.
use Rattle.std.specs.Prelude.{◌≡◌, ℕ, List, Option, Some, None, option_map, slice_get, ◌⊎◌}
use Rattle.lid_design.specs.declared.Design.{Design}
use Rattle.lid_design.specs.Models.{HasNoRecursion, AreReached, IsFirstRecursive}
use Rattle.lid_check_rules.specs.declared.fault.CheckFault.{CheckFault}
use Rattle.lid_check_rules.specs.declared.fault.CheckFault.TheVariants.{Recursive}
use Rattle.lid_check_rules.specs.Conditions.{or_fault, duplicate_name, unknown_model, unknown_formal, formal_twice, unbound, two_drivers, undriven, clock_use, two_clocks, mixed_edges, root_logic, limits}

-- the conditions that come before recursion
unfoldable pub fault_before_recursion : Design → List ℕ → Option CheckFault
fault_before_recursion d ks = or_fault (duplicate_name d ks) (unknown_model d ks)

-- the conditions on models that come after recursion, in order
unfoldable pub fault_after_recursion : Design → List ℕ → Option CheckFault
fault_after_recursion d ks =
    or_fault (unknown_formal d ks)
    (or_fault (formal_twice d ks)
    (or_fault (unbound d ks)
    (or_fault (two_drivers d ks)
    (or_fault (undriven d ks)
    (or_fault (clock_use d ks)
    (or_fault (two_clocks d)
    (or_fault (mixed_edges d ks)
    (or_fault (root_logic d)
    (limits d)))))))))

-- a model that reaches itself is told by its name
abbrev pub TellsRecursive : Design → CheckFault → Type 0
TellsRecursive d fault = (k : ℕ) × IsFirstRecursive d k × (option_map (λ m. Recursive m.name) (slice_get d.models k) ≡ Some fault)

-- the first condition on models that applies tells this fault
abbrev pub IsModelFault : Design → CheckFault → Type 0
IsModelFault d fault =
    (ks : List ℕ)
    × AreReached d ks
    × ((fault_before_recursion d ks ≡ Some fault)
    ⊎ ((fault_before_recursion d ks ≡ None) × TellsRecursive d fault)
    ⊎ ((fault_before_recursion d ks ≡ None) × HasNoRecursion d × (fault_after_recursion d ks ≡ Some fault)))

-- no condition on models applies
pub record ModelsPass (d : Design) : Type 0 where
  pub ks : List ℕ
  pub reached : AreReached d ks
  pub before : fault_before_recursion d ks ≡ None
  pub flat : HasNoRecursion d
  pub after : fault_after_recursion d ks ≡ None
