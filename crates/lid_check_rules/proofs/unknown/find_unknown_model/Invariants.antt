use Rattle.std.proofs.Common.{◌≡◌, drop}
use Rattle.lid_check_rules.specs.Early.{unknowns}
use Rattle.lid_check_rules.proofs.unknown.find_unknown_model.Given as goal

abbrev pub invariant-loop-k : goal.invariant-loop-k
invariant-loop-k l = unknowns l.uses (drop l.k-index l.reached) ≡ unknowns l.uses l.reached
