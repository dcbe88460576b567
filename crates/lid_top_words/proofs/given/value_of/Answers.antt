use Rattle.std.proofs.Common.{◌∙◌}
use Rattle.clap.specs.Words.{found_of}
use Rattle.clap.proofs.WalkLemmas.{first_value-rows}
use Rattle.lid_top_words.specs.Reading.{matches_in}
use Rattle.lid_top_words.proofs.given.value_of.Goals as goal

pub returns : goal.returns
unfolding matches_in
returns c = c.get_str.ensures ∙ first_value-rows (found_of c.args.given.now) c.args.name.now
