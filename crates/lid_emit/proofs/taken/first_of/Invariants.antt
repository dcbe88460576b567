use Rattle.std.proofs.Common.{◌≡◌, find, drop}
use Rattle.lid_emit.specs.Taken.{is_taken}
use Rattle.lid_emit.proofs.taken.first_of.Given as goal

abbrev pub invariant-loop-name : goal.invariant-loop-name
invariant-loop-name l = find (is_taken l.outputs) (drop l.name-index l.inputs) ≡ find (is_taken l.outputs) l.inputs
