use Rattle.lid_check_elab.proofs.Outer.{template_at, template_within}
use Rattle.lid_check_elab.proofs.placing.scope_template.Goals as goal

pub bounds-templates-scope : goal.bounds-templates-scope
bounds-templates-scope c =
    let there = c.requires.there in
    template_within c.args.judged.now c.args.templates.now c.requires.templates c.args.scope.model (there.0, there.1.leads)

pub returns : goal.returns
returns c =
    let there = c.requires.there in
    template_at c.args.judged.now c.args.templates.now c.requires.templates c.args.scope.model (there.0, there.1.leads) c.index-templates-scope.result c.index-templates-scope.is
