use Rattle.lid_base_lines.proofs.ReadBack.{text_law, text_clean}
use Rattle.lid_base_lines.proofs.laws.lines_are_read_back.Goals as goal

pub returns : goal.returns
returns c = λ longest lines h. record { sound = text_clean longest lines h; same = text_law longest lines h }
