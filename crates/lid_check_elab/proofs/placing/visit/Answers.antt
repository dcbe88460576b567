use Rattle.std.proofs.Common.{sym, subst}
use Rattle.lid_check_elab.specs.Parts.{HasOffsets}
use Rattle.lid_check_elab.proofs.placing.visit.Goals as goal

pub push_instances-requires-clause-offsets : goal.push_instances-requires-clause-offsets
push_instances-requires-clause-offsets c = subst (HasOffsets c.args.judged.now c.args.scope.model) (sym c.as_slice-offsets.ensures) c.scope_template.ensures.offsets
