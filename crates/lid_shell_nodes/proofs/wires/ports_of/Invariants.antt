use Rattle.std.proofs.Common.{◌≡◌, ◌++◌, map, drop}
use Rattle.lid_shell_nodes.proofs.wires.ports_of.Given as goal

abbrev pub invariant-loop-channel : goal.invariant-loop-channel
invariant-loop-channel l = l.ports.items ++ map (λ c. c.ports) (drop l.channel-index l.found) ≡ map (λ c. c.ports) l.found
