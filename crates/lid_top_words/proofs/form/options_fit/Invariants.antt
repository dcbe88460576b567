use Rattle.std.proofs.Common.{◌≡◌, map, drop}
use Rattle.std.specs.List.{list_all}
use Rattle.lid_top_words.specs.Reading.{matches_in}
use Rattle.lid_top_words.specs.Jobs.{option_fits}
use Rattle.lid_top_words.proofs.form.options_fit.Given as goal

-- the options so far have values that may stand there
abbrev pub invariant-loop-name : goal.invariant-loop-name
invariant-loop-name l =
    list_all (option_fits (matches_in l.given)) (map (λ n. n.now) (drop l.name-index l.names))
    ≡ list_all (option_fits (matches_in l.given)) (map (λ n. n.now) l.names)
