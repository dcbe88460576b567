use Rattle.std.proofs.Common.{◌≡◌, ℕ, length, Some, slice_get}
use Rattle.lid_design.specs.Models.{instance_number}
use Rattle.lid_check_loops.specs.declared.pearls.Pearl.{Pearl}
use Rattle.lid_check_loops.proofs.pearls.list_instances.Given as goal

abbrev pub invariant-loop-i : goal.invariant-loop-i
invariant-loop-i l = record {
  long : length l.pearls.items ≡ l.i;
  each :
      (j start : ℕ) (pearl : Pearl)
      → slice_get l.starts j ≡ Some start
      → slice_get l.pearls.items j ≡ Some pearl
      → (instance_number l.survey j l.survey.root ≡ Some pearl.model) × (pearl.start ≡ start);
}
