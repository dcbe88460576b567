use Rattle.lid_design.specs.Elaboration.{model_nets}
use Rattle.lid_check_table.specs.Tables.{names_in}
use Rattle.lid_check_table.proofs.Appending.{as_many}
use Rattle.lid_check_hierarchy.proofs.Surveying.{model_there}
use Rattle.lid_check_hierarchy.proofs.survey.Survey.count_nets.Goals as goal

pub returns-clause-value : goal.returns-clause-value
returns-clause-value c =
    let there = model_there c.self.invariant.names c.self.view_is c.args.model c.requires in
    as_many (names_in there.0) (model_nets c.args.self.now c.args.model) c.nets_of.result.now (c.nets_of.ensures there.0 there.1)
