use Rattle.std.proofs.Common.{◌∙◌, ap}
use Rattle.lid_base.specs.Lines.{ends_in_mark, trimmed, goes_on}
use Rattle.lid_base.proofs.cut.goes_on.Goals as goal

pub returns : goal.returns
unfolding goes_on
returns c = c.ends_in_mark.ensures ∙ ap ends_in_mark (c.trimmed.ensures ∙ ap trimmed c.content_of.ensures)
