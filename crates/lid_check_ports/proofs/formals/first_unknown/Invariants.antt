use Rattle.std.proofs.Common.{◌≡◌, not, map, find, drop}
use Rattle.lid_design.specs.Models.{formal_of}
use Rattle.lid_check_ports.specs.Formals.{is_port_of}
use Rattle.lid_check_ports.proofs.formals.first_unknown.Given as goal

abbrev pub invariant-loop-bind : goal.invariant-loop-bind
invariant-loop-bind l = find (λ formal. not (is_port_of l.ports l.sub formal)) (map formal_of (drop l.bind-index l.binds)) ≡ find (λ formal. not (is_port_of l.ports l.sub formal)) (map formal_of l.binds)
