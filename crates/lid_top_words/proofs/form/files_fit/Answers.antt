use Rattle.std.proofs.Common.{◌∙◌, map}
use Rattle.lid_top_words.proofs.Readings.{fit_without_places}
use Rattle.lid_top_words.proofs.form.files_fit.Goals as goal

pub returns-else-not-is_empty : goal.returns-else-not-is_empty
returns-else-not-is_empty c = fit_without_places (map (λ f. f.now) c.loop-more.more.now) c.loop-more.free.now c.if-not-is_empty.ensures ∙ c.loop-more.invariant
