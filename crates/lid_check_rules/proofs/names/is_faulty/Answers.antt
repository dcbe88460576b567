use Rattle.std.proofs.Common.{sym, ap, ◌∙◌}
use Rattle.lid_design.specs.Models.{is_twice, driver_names}
use Rattle.lid_check_table.specs.Tables.{names_in}
use Rattle.lid_check_table.proofs.Marking.{mark_here}
use Rattle.lid_check_rules.specs.declared.names.NameRule.{NameRule}
use Rattle.lid_check_rules.specs.Names.{is_faulty}
use Rattle.lid_check_rules.proofs.names.is_faulty.Goals as goal

pub returns-in-TwoDrivers : goal.returns-in-TwoDrivers
returns-in-TwoDrivers c name here =
    let d = c.args.ports.now in
    let m = c.args.nets.now.table.now in
    c.is_marked.ensures
    ∙ mark_here (is_twice (driver_names d m)) (names_in m) c.as_slice.result.now c.args.number name (c.as_slice.ensures ∙ c.requires.nets.again) here
    ∙ ap (λ (rule : NameRule). is_faulty rule d m name) (sym c.in-TwoDrivers.is)

pub returns-in-Undriven : goal.returns-in-Undriven
returns-in-Undriven c name here =
    c.is_undriven.ensures name here ∙ ap (λ (rule : NameRule). is_faulty rule c.args.ports.now c.args.nets.now.table.now name) (sym c.in-Undriven.is)

pub returns-in-ClockUse : goal.returns-in-ClockUse
returns-in-ClockUse c name here =
    c.is_misused_at.ensures name here ∙ ap (λ (rule : NameRule). is_faulty rule c.args.ports.now c.args.nets.now.table.now name) (sym c.in-ClockUse.is)
