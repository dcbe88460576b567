use Rattle.std.proofs.Common.{sym, ◌∙◌}
use Rattle.lid_design.specs.Elaboration.{model_nets}
use Rattle.lid_check_table.specs.Tables.{names_in}
use Rattle.lid_check_hierarchy.proofs.Surveying.{model_there, net_there, no_net_there}
use Rattle.lid_check_hierarchy.proofs.survey.Survey.net_at.Goals as goal

pub returns-in-Some : goal.returns-in-Some
returns-in-Some c =
    let m = c.table_of.result.now in
    let nets = model_nets c.args.self.now c.args.model in
    c.name_at.ensures ∙ net_there (names_in m) nets c.nets_of.result.now c.args.place c.in-Some.number (c.nets_of.ensures m c.table_of.ensures) (sym c.in-Some.ensures)

pub returns-in-None : goal.returns-in-None
returns-in-None c =
    let there = model_there c.self.invariant.names c.self.view_is c.args.model c.requires in
    no_net_there (names_in there.0) (model_nets c.args.self.now c.args.model) c.nets_of.result.now c.args.place (c.nets_of.ensures there.0 there.1) (sym c.in-None.ensures)
