use Rattle.lid_top_script.specs.Scripts.{rows_script}
use Rattle.lid_top_script.proofs.Fetched.{made_read, by_given, stopped_here}
use Rattle.lid_top_whole.proofs.strict.rows_text.Goals as goal

pub returns-in-Ok : goal.returns-in-Ok
unfolding rows_script
returns-in-Ok g c = by_given (made_read _ _ c.in-Ok.ensures.ok c.in-Ok.ensures.fetched c.in-Ok.ensures.kept) c.outputs_text.ensures.ok c.outputs_text.ensures.err

pub returns-in-Err : goal.returns-in-Err
unfolding rows_script
returns-in-Err g c = stopped_here _ _ c.in-Err.ensures.err c.in-Err.ensures.fetched c.in-Err.ensures.kept c.in-Err.ensures.grows
