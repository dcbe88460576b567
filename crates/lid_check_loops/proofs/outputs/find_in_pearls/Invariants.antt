use Rattle.std.proofs.Common.{◌≡◌, ◌<◌, ℕ, Some, slice_get}
use Rattle.lid_check_loops.specs.declared.pearls.Pearl.{Pearl}
use Rattle.lid_check_loops.specs.Pearls.{NoneLeads}
use Rattle.lid_check_loops.proofs.outputs.find_in_pearls.Given as goal

abbrev pub invariant-loop-p : goal.invariant-loop-p
invariant-loop-p l = (q : ℕ) (pearl : Pearl) → q < l.p → slice_get l.pearls q ≡ Some pearl → NoneLeads l.survey l.graph.reads.now l.cut pearl
