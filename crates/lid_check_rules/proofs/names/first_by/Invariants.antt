use Rattle.std.proofs.Common.{◌≡◌, drop}
use Rattle.lid_check_rules.specs.Conditions.{first_told}
use Rattle.lid_check_rules.specs.Names.{told_by}
use Rattle.lid_check_rules.proofs.names.first_by.Given as goal

abbrev pub invariant-loop-found : goal.invariant-loop-found
invariant-loop-found l = first_told (told_by l.rule) (drop l.found-index l.findings) ≡ first_told (told_by l.rule) l.findings
