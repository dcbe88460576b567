use Rattle.lid_top_script.specs.Scripts.{unwave_script}
use Rattle.lid_top_script.proofs.Fetched.{made_read, by_given, stopped_here}
use Rattle.lid_top_held.proofs.unwave.unwave_text.Goals as goal

pub returns-in-Ok : goal.returns-in-Ok
unfolding unwave_script
returns-in-Ok g c = by_given (made_read _ _ c.in-Ok.ensures.ok c.in-Ok.ensures.fetched c.in-Ok.ensures.kept) c.text_of.ensures.ok c.text_of.ensures.err

pub returns-in-Err : goal.returns-in-Err
unfolding unwave_script
returns-in-Err g c = stopped_here _ _ c.in-Err.ensures.err c.in-Err.ensures.fetched c.in-Err.ensures.kept c.in-Err.ensures.grows
