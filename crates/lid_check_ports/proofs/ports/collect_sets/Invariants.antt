use Rattle.std.proofs.Common.{◌≡◌, ◌++◌, drop}
use Rattle.lid_check_ports.specs.Ports.{sets_in}
use Rattle.lid_check_ports.proofs.ports.collect_sets.Given as goal

abbrev pub invariant-loop-model : goal.invariant-loop-model
invariant-loop-model l = l.sets.items ++ sets_in l.port (drop l.model-index l.models) ≡ sets_in l.port l.models
