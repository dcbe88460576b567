use Rattle.lid_base.specs.Lines.{is_newline}
use Rattle.std.proofs.lemmas.List.Splits.{slice_split_none}
use Rattle.lid_base.proofs.Cutting.{position_some, position_none, split_found}
use Rattle.lid_base.proofs.cut.cut_line.Goals as goal

pub returns-in-None-clause-line : goal.returns-in-None-clause-line
returns-in-None-clause-line c = slice_split_none is_newline _ (position_none is_newline _ c.in-None.ensures)

pub returns-in-Some-clause-line : goal.returns-in-Some-clause-line
returns-in-Some-clause-line c = split_found is_newline _ _ (position_some is_newline _ _ c.in-Some.ensures)
