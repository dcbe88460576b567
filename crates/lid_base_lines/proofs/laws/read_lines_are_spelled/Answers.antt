use Rattle.lid_base_lines.proofs.ReadWords.{text_words}
use Rattle.lid_base_lines.proofs.laws.read_lines_are_spelled.Goals as goal

pub returns : goal.returns
returns c = λ longest bytes h. text_words longest bytes h
