use Rattle.std.proofs.Common.{List, sym, subst}
use Rattle.lid_check_elab.specs.declared.template.Template.{Template}
use Rattle.lid_check_elab.specs.Parts.{AreTemplates}
use Rattle.lid_check_elab.proofs.template.find_templates.Goals as goal

pub returns : goal.returns
returns c = subst (λ (ts : List Template). AreTemplates c.args.judged.now ts) (sym c.from_vec.ensures) c.in_ok-push_templates.ensures
