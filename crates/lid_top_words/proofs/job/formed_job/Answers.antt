use Rattle.std.proofs.Common.{sym, ◌∙◌}
use Rattle.lid_top_words.specs.Reading.{matches_in}
use Rattle.lid_top_words.specs.Jobs.{form_shown}
use Rattle.lid_top_words.proofs.Reaches.{all_fit}
use Rattle.lid_top_words.proofs.job.formed_job.Goals as goal

pub make_job-requires : goal.make_job-requires
make_job-requires c = all_fit (form_shown c.args.form) (matches_in c.args.given.now) (sym c.has_form.ensures ∙ c.if-has_form.true)
