use Rattle.std.proofs.Common.{◌≤◌, length, vec_len}
use Rattle.lid_check_digraph.specs.Traversals.{AreComponents}
use Rattle.lid_check_digraph.proofs.tarjan.close_component.Given as goal

abbrev pub invariant-loop-top : goal.invariant-loop-top
invariant-loop-top l = record {
  components : AreComponents (length l.fn.components.indices.items) l.components;
  within : l.top ≤ vec_len l.components.stack;
}

abbrev pub decreases-loop-top : goal.decreases-loop-top
decreases-loop-top l = l.top
