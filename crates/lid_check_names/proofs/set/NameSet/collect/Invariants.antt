use Rattle.std.proofs.Common.{◌≡◌, take}
use Rattle.lid_check_names.specs.Names.{firsts, texts}
use Rattle.lid_check_names.proofs.set.NameSet.collect.Given as goal

abbrev pub invariant-loop-name : goal.invariant-loop-name
invariant-loop-name l = l.set ≡ firsts (texts (take l.name-index l.names))
