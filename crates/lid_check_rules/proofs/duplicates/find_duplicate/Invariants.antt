use Rattle.std.proofs.Common.{◌≡◌, drop}
use Rattle.lid_check_rules.specs.Early.{duplicates}
use Rattle.lid_check_rules.proofs.duplicates.find_duplicate.Given as goal

abbrev pub invariant-loop-k : goal.invariant-loop-k
invariant-loop-k l = duplicates l.design (drop l.k-index l.reached) ≡ duplicates l.design l.reached
