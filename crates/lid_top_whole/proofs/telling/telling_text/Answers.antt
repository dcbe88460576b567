use Rattle.lid_top_script.specs.Scripts.{told_script, telling_script}
use Rattle.lid_top_script.proofs.Fetched.{made_wrapped, by_given, stopped_unwrapped}
use Rattle.lid_top_whole.specs.Telling.{output_of}
use Rattle.lid_top_whole.proofs.telling.telling_text.Goals as goal

pub returns-in-Ok : goal.returns-in-Ok
unfolding telling_script told_script
returns-in-Ok g c = by_given (made_wrapped (λ d. told_script (output_of c.args.telling)) _ c.in-Ok.ensures.ok c.in-Ok.ensures.fetched c.in-Ok.ensures.kept) c.told_text.ensures.ok c.told_text.ensures.err

pub returns-in-Err : goal.returns-in-Err
unfolding telling_script
returns-in-Err g c = stopped_unwrapped (λ d. told_script (output_of c.args.telling)) c.in-Err.ensures.err c.in-Err.ensures.fetched c.in-Err.ensures.kept c.in-Err.ensures.grows
