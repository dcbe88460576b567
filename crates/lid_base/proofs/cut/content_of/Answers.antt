use Rattle.lid_base.specs.Lines.{is_hash, content_of}
use Rattle.lid_base.proofs.Cutting.{position_some, position_none, before_found, before_none}
use Rattle.lid_base.proofs.cut.content_of.Goals as goal

pub returns-in-None : goal.returns-in-None
unfolding content_of
returns-in-None c = before_none is_hash _ (position_none is_hash _ c.in-None.ensures)

pub returns-in-Some : goal.returns-in-Some
unfolding content_of
returns-in-Some c = before_found is_hash _ _ (position_some is_hash _ _ c.in-Some.ensures)
