use Rattle.std.proofs.Common.{◌≡◌, map, drop}
use Rattle.clap.specs.Words.{app_of}
use Rattle.lid_top_words.specs.Reading.{with_options}
use Rattle.lid_top_words.proofs.reader.with_options.Given as goal

-- the options that are left complete the command
abbrev pub invariant-loop-name : goal.invariant-loop-name
invariant-loop-name l =
    with_options (app_of l.command) (map (λ n. n.now) (drop l.name-index l.names))
    ≡ with_options (app_of l.initial.command) (map (λ n. n.now) l.names)
