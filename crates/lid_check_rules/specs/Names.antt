-- How the conditions on names are tried: all three in one model before the next.
use Rattle.std.specs.Prelude.{ℕ, Bool, List, Option, option_and_then, slice_get}
use Rattle.lid_design.specs.declared.Design.{Design}
use Rattle.lid_design.specs.declared.Model.{Model}
use Rattle.lid_design.specs.Models.{driver_names, is_twice}
use Rattle.lid_check_rules.specs.declared.fault.CheckFault.{CheckFault}
use Rattle.lid_check_rules.specs.declared.fault.CheckFault.TheVariants.{TwoDrivers, Undriven, ClockUse}
use Rattle.lid_check_rules.specs.declared.names.NameRule.{NameRule}
use Rattle.lid_check_rules.specs.declared.names.NameRule.TheVariants as name
use Rattle.lid_check_rules.specs.declared.names.Findings.{Findings}
use Rattle.lid_check_rules.specs.Conditions.{or_fault, first_told, two_drivers_in, undriven_in, clock_use_in, is_undriven, is_misused}
use Rattle.lid_check_rules.specs.Told.{shown_of}

-- whether a condition is broken at a name of a model
abbrev pub is_faulty : NameRule → Design → Model → List ℕ → Bool
is_faulty name.TwoDrivers d m net = is_twice (driver_names d m) net
is_faulty name.Undriven d m net = is_undriven d m net
is_faulty name.ClockUse d m net = is_misused d m net

-- what a condition tells of the names of a model
abbrev pub name_rule : NameRule → Design → Model → Option CheckFault
name_rule name.TwoDrivers d m = two_drivers_in d m
name_rule name.Undriven d m = undriven_in d m
name_rule name.ClockUse d m = clock_use_in d m

-- how it is told
abbrev pub told_name : NameRule → List ℕ → List ℕ → CheckFault
told_name name.TwoDrivers model net = TwoDrivers model net
told_name name.Undriven model net = Undriven model net
told_name name.ClockUse model net = ClockUse model net

-- what a condition tells of the model of a number
unfoldable pub name_at : NameRule → Design → ℕ → Option CheckFault
name_at rule d k = option_and_then (name_rule rule d) (slice_get d.models k)

-- what it tells of some models
abbrev pub by_name : NameRule → Design → List ℕ → Option CheckFault
by_name rule d ks = first_told (name_at rule d) ks

-- what the first of the conditions on names tells of some models
unfoldable pub by_names : Design → List ℕ → Option CheckFault
by_names d ks = or_fault (by_name name.TwoDrivers d ks) (or_fault (by_name name.Undriven d ks) (by_name name.ClockUse d ks))

-- what was told by a condition
abbrev pub told_by : NameRule → Findings → Option CheckFault
told_by name.TwoDrivers found = shown_of found.two_drivers
told_by name.Undriven found = shown_of found.undriven
told_by name.ClockUse found = shown_of found.clock_use

-- what was told first, where each condition is asked of all models before the next
abbrev pub first_by_rules : List Findings → Option CheckFault
first_by_rules list = or_fault (first_told (told_by name.TwoDrivers) list) (or_fault (first_told (told_by name.Undriven) list) (first_told (told_by name.ClockUse) list))
