use Rattle.lid_check_rules.specs.declared.names.NameRule.TheVariants.{TwoDrivers, Undriven, ClockUse}
use Rattle.lid_check_rules.proofs.names.tell_each.Goals as goal

pub returns : goal.returns
returns c TwoDrivers = c.tell_first.ensures
returns c Undriven = c.tell_first-2.ensures
returns c ClockUse = c.tell_first-3.ensures
