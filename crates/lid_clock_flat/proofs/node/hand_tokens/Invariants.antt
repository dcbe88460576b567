use Rattle.lid_clock_flat.specs.Nodes.{IsHanded}
use Rattle.lid_clock_flat.proofs.node.hand_tokens.Given as goal

abbrev pub invariant-loop-i : goal.invariant-loop-i
invariant-loop-i l = IsHanded l.i l.initial.node l.stations l.node
