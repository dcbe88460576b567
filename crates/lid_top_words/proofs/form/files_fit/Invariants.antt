use Rattle.std.proofs.Common.{◌≡◌, length, map}
use Rattle.lid_top_words.specs.Jobs.{files_fit}
use Rattle.lid_top_words.proofs.form.files_fit.Given as goal

-- what stood so far may stand in its place
abbrev pub invariant-loop-more : goal.invariant-loop-more
invariant-loop-more l =
    files_fit (map (λ f. f.now) l.more) (map (λ p. p.now) l.free)
    ≡ files_fit (map (λ f. f.now) l.files) (map (λ p. p.now) l.places)

abbrev pub decreases-loop-more : goal.decreases-loop-more
decreases-loop-more l = length l.more
