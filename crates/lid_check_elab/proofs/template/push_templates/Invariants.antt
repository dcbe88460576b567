use Rattle.std.proofs.Common.{◌≡◌, ◌<◌, ℕ, Some, length, slice_get}
use Rattle.lid_design.specs.Models.{IsReached}
use Rattle.lid_check_elab.specs.Parts.{IsTemplate}
use Rattle.lid_check_elab.specs.declared.template.Template.{Template}
use Rattle.lid_check_elab.proofs.template.push_templates.Given as goal

abbrev pub invariant-loop-model : goal.invariant-loop-model
invariant-loop-model l = record {
  long : length l.templates.items ≡ l.model;
  each : (k : ℕ) → k < l.model → IsReached l.judged k → (t : Template) × (slice_get l.templates.items k ≡ Some t) × IsTemplate l.judged k t;
}
