use Rattle.std.proofs.Common.{◌≡◌, ◌++◌, take}
use Rattle.lid_base.proofs.names.push_copies.Given as goal

abbrev pub invariant-loop-name : goal.invariant-loop-name
invariant-loop-name l = l.into.items ≡ l.initial.into.items ++ take l.name-index l.names
