use Rattle.std.proofs.Common.{◌∙◌, ap}
use Rattle.lid_base.specs.Lines.{trimmed, without_mark, words_in, words_of}
use Rattle.lid_base.proofs.cut.words_part.Goals as goal

pub returns : goal.returns
unfolding words_of
returns c = ap words_in (c.without_mark.ensures ∙ ap without_mark (c.trimmed.ensures ∙ ap trimmed c.content_of.ensures))
