use Rattle.lid_check_laws.proofs.Examples.{lone_plain, assembled_plain}
use Rattle.lid_check_laws.proofs.laws.some_designs_are_plain.Goals as goal

pub returns-clause-lone : goal.returns-clause-lone
returns-clause-lone c = lone_plain

pub returns-clause-assembled : goal.returns-clause-assembled
returns-clause-assembled c = assembled_plain
