use Rattle.std.proofs.Common.{◌≡◌, min, sum_by, take}
use Rattle.lid_emit_meaning.specs.Sizes.{name_size}
use Rattle.lid_emit.proofs.size.names_size.Given as goal

abbrev pub invariant-loop-name : goal.invariant-loop-name
invariant-loop-name l = l.size ≡ min (sum_by name_size (take l.name-index l.names)) 18446744073709551615
