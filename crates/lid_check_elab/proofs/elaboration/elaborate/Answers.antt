use Rattle.std.proofs.Common.{sym, subst}
use Rattle.lid_check_elab.specs.Parts.{AreTemplates}
use Rattle.lid_check_elab.proofs.elaboration.elaborate.Goals as goal

pub elaborate_by-requires : goal.elaborate_by-requires
elaborate_by-requires c = subst (AreTemplates c.args.judged) (sym c.as_slice.ensures) c.in_ok-templates.ensures
