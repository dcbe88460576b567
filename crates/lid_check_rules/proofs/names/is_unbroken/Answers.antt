use Rattle.std.proofs.Common.{◌≡◌, true, false, sym, subst}
use Rattle.lid_check_rules.specs.declared.names.NameRule.{NameRule}
use Rattle.lid_check_rules.specs.Names.{is_faulty}
use Rattle.lid_check_rules.proofs.names.is_unbroken.Goals as goal

pub returns-in-TwoDrivers : goal.returns-in-TwoDrivers
returns-in-TwoDrivers c h name = absurd (let f : false ≡ true = h in cc)

pub returns-in-Undriven : goal.returns-in-Undriven
returns-in-Undriven c h name = absurd (let f : false ≡ true = h in cc)

pub returns-in-ClockUse : goal.returns-in-ClockUse
returns-in-ClockUse c used name =
    subst (λ (rule : NameRule). is_faulty rule c.args.ports.now c.args.nets.now.table.now name ≡ false) (sym c.in-ClockUse.is) (c.are_clocks_used.ensures used name)
