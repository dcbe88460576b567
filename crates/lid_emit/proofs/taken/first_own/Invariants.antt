use Rattle.std.proofs.Common.{◌≡◌, find, drop}
use Rattle.lid_design.specs.Columns.{is_among}
use Rattle.lid_emit_meaning.specs.Ports.{own_names}
use Rattle.lid_emit.proofs.taken.first_own.Given as goal

abbrev pub invariant-loop-name : goal.invariant-loop-name
invariant-loop-name l = find (λ name. is_among name own_names) (drop l.name-index l.names) ≡ find (λ name. is_among name own_names) l.names
