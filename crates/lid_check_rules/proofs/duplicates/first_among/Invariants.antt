use Rattle.std.proofs.Common.{◌≡◌, find, drop}
use Rattle.lid_check_names.specs.Names.{texts}
use Rattle.lid_check_rules.specs.Conditions.{is_duplicate}
use Rattle.lid_check_rules.proofs.duplicates.first_among.Given as goal

abbrev pub invariant-loop-name : goal.invariant-loop-name
invariant-loop-name l = find (is_duplicate l.is_root l.lists.model.now) (texts (drop l.name-index l.names)) ≡ find (is_duplicate l.is_root l.lists.model.now) (texts l.names)
