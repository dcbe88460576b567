use Rattle.std.proofs.Common.{◌≡◌, not, find, drop}
use Rattle.lid_design.specs.Columns.{is_among}
use Rattle.lid_check_names.specs.Names.{texts}
use Rattle.lid_check_ports.proofs.formals.first_outside.Given as goal

abbrev pub invariant-loop-name : goal.invariant-loop-name
invariant-loop-name l = find (λ name. not (is_among name l.set)) (texts (drop l.name-index l.names)) ≡ find (λ name. not (is_among name l.set)) (texts l.names)
