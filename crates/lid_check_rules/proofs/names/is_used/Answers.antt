use Rattle.std.proofs.Common.{◌≡◌, true, false, sym, ◌∙◌}
use Rattle.lid_check_table.specs.Tables.{names_in}
use Rattle.lid_check_rules.proofs.Sets.{not_true, found_there}
use Rattle.lid_check_rules.proofs.names.is_used.Goals as goal

pub is_misused-requires-clause-name : goal.is_misused-requires-clause-name
is_misused-requires-clause-name c = found_there c.args.name.now (names_in c.args.nets.now.table.now) c.in-Some.number (sym c.number_of.ensures ∙ c.in-Some.is)

pub returns-in-Some : goal.returns-in-Some
returns-in-Some c used = sym c.is_misused.ensures ∙ not_true c.is_misused.result used

pub returns-in-None : goal.returns-in-None
returns-in-None c h = absurd (let f : false ≡ true = h in cc)
