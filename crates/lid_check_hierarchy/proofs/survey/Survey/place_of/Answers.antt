use Rattle.std.proofs.Common.{sym, ◌∙◌}
use Rattle.lid_check_table.specs.Tables.{names_in}
use Rattle.lid_check_hierarchy.proofs.Placing.{place_there}
use Rattle.lid_check_hierarchy.proofs.Surveying.{no_net}
use Rattle.lid_check_hierarchy.proofs.survey.Survey.place_of.Goals as goal

pub returns-in-Some : goal.returns-in-Some
returns-in-Some c =
    let m = c.table_of.result.now in
    c.widen.ensures ∙ c.place_by.ensures m c.args.name.now c.table_of.ensures (place_there c.args.name.now (names_in m) c.in-Some.number (sym c.in-Some.ensures))

pub returns-in-None : goal.returns-in-None
returns-in-None c = sym (no_net c.args.self.now c.args.model c.table_of.result.now c.args.name.now c.table_of.ensures (sym c.in-None.ensures))
