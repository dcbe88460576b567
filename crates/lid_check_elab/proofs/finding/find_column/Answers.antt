use Rattle.std.proofs.Common.{sym, subst}
use Rattle.lid_check_elab.specs.Parts.{AreTemplates}
use Rattle.lid_check_elab.proofs.finding.find_column.Goals as goal

pub find_by-requires-clause-templates : goal.find_by-requires-clause-templates
find_by-requires-clause-templates c = subst (AreTemplates c.args.judged.now) (sym c.as_slice.ensures) c.in_ok-templates.ensures
