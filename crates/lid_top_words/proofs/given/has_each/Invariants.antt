use Rattle.std.proofs.Common.{◌≡◌, map, drop}
use Rattle.lid_top_words.specs.Reading.{matches_in}
use Rattle.lid_top_words.specs.Jobs.{has_each}
use Rattle.lid_top_words.proofs.given.has_each.Given as goal

-- the options so far stand in the words
abbrev pub invariant-loop-option : goal.invariant-loop-option
invariant-loop-option l =
    has_each (map (λ o. o.now) (drop l.option-index l.options)) (matches_in l.given)
    ≡ has_each (map (λ o. o.now) l.options) (matches_in l.given)
