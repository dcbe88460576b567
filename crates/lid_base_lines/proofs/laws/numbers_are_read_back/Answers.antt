use Rattle.lid_base_lines.proofs.Numbers.{numbers_read_back}
use Rattle.lid_base_lines.proofs.laws.numbers_are_read_back.Goals as goal

pub returns : goal.returns
returns c = numbers_read_back
