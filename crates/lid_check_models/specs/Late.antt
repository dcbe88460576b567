-- How the conditions after recursion are tried: group by group.
use Rattle.std.specs.Prelude.{ℕ, List, Option}
use Rattle.lid_design.specs.declared.Design.{Design}
use Rattle.lid_check_rules.specs.declared.fault.CheckFault.{CheckFault}
use Rattle.lid_check_rules.specs.Conditions.{or_fault, two_clocks, mixed_edges, root_logic, limits}
use Rattle.lid_check_rules.specs.Names.{by_names}

unfoldable pub after_edges : Design → Option CheckFault
after_edges d = or_fault (root_logic d) (limits d)

unfoldable pub after_clocks : Design → List ℕ → Option CheckFault
after_clocks d ks = or_fault (mixed_edges d ks) (after_edges d)

-- the conditions after those that speak of each model
unfoldable pub after_names : Design → List ℕ → Option CheckFault
after_names d ks = or_fault (two_clocks d) (after_clocks d ks)

-- the conditions after those that speak of instances
unfoldable pub after_insts : Design → List ℕ → Option CheckFault
after_insts d ks = or_fault (by_names d ks) (after_names d ks)
