use Rattle.std.proofs.Common.{◌∙◌}
use Rattle.clap.specs.Words.{found_of}
use Rattle.clap.proofs.WalkLemmas.{raw_values-rows}
use Rattle.lid_top_words.specs.declared.table.TheConstants.{FILES}
use Rattle.lid_top_words.specs.Reading.{matches_in}
use Rattle.lid_top_words.proofs.given.files.Goals as goal

pub returns : goal.returns
unfolding matches_in
returns c = c.get_strs.ensures ∙ raw_values-rows (found_of c.args.given.now) FILES.now
