use Rattle.std.proofs.Common.{take}
use Rattle.lid_net.specs.Nodes.{AreShellsSoFar}
use Rattle.lid_net.proofs.nodes.push_shells.Given as goal

abbrev pub invariant-loop-i : goal.invariant-loop-i
invariant-loop-i l = AreShellsSoFar l.checked l.wiring (take l.i l.ports) l.fn.nodes.items l.nodes.items
