use Rattle.std.proofs.Common.{◌∙◌, ap, Option}
use Rattle.std.proofs.lemmas.Result.{IfOk-weaker}
use Rattle.clap.specs.declared.parser.matches.ArgMatches.{ArgMatches}
use Rattle.lid_top_words.specs.Reading.{matches_in}
use Rattle.lid_top_words.proofs.Readings.{given_matches, none_given}
use Rattle.std.specs.Prelude.{option_map}
use Rattle.lid_top_words.proofs.reader.parse.Goals as goal

pub returns-in-Ok : goal.returns-in-Ok
returns-in-Ok c = given_matches _ _ _ c.in_ok-command.ensures c.in-Ok.ensures.matches c.in-Ok.ensures.kinds

pub returns-in-Err : goal.returns-in-Err
returns-in-Err c = IfOk-weaker c.without_matches.result _ _ (λ m h.
    ap (λ (o : Option ArgMatches). option_map matches_in o) h.0
    ∙ none_given _ _ c.in-Err.error c.in_ok-command.ensures c.in-Err.ensures.kinds h.1) c.without_matches.ensures
