use Rattle.std.proofs.Common.{◌≡◌, ◌++◌, drop}
use Rattle.lid_check_names.specs.Names.{texts}
use Rattle.lid_check_loops.proofs.pearls.copy_all.Given as goal

abbrev pub invariant-loop-name : goal.invariant-loop-name
invariant-loop-name l = l.copied.items ++ texts (drop l.name-index l.names) ≡ texts l.names
