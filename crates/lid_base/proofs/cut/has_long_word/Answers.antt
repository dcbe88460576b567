use Rattle.std.proofs.Common.{ap, ◌∙◌, nat_lt, length, List, ℕ}
use Rattle.std.specs.List.{list_any}
use Rattle.lid_base.specs.Lines.{has_long_word}
use Rattle.lid_base.proofs.cut.has_long_word.Goals as goal

pub returns : goal.returns
unfolding has_long_word
returns c = c.has_longer_word.ensures ∙ ap (list_any (λ (w : List ℕ). nat_lt c.args.longest (length w))) c.words_part.ensures
