use Rattle.std.proofs.Common.{◌∙◌, ap}
use Rattle.lid_design.specs.declared.Design.{Design}
use Rattle.lid_design.specs.Models.{is_clock_of}
use Rattle.lid_check_rules.proofs.Clocking.{none_misused}
use Rattle.lid_check_rules.proofs.names.are_clocks_used.Goals as goal

pub returns : goal.returns
returns c used name =
    none_misused c.args.ports.now c.args.k c.args.nets.now.table.now c.clocks_of.result.now c.requires.nets.here
    (λ n. c.clocks_of.ensures n ∙ ap (λ (d : Design). is_clock_of d c.args.k n) c.survey.ensures)
    (c.are_all_used.ensures used) name
