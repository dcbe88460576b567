use Rattle.lid_top_script.specs.Scripts.{strict_script}
use Rattle.lid_top_script.proofs.Fetched.{made_read, by_within, stopped_here}
use Rattle.lid_top_whole.proofs.strict.strict_text.Goals as goal

pub returns-in-Ok : goal.returns-in-Ok
unfolding strict_script
returns-in-Ok g c = by_within (made_read _ _ c.in-Ok.ensures.ok c.in-Ok.ensures.fetched c.in-Ok.ensures.kept) c.checked_text.ensures

pub returns-in-Err : goal.returns-in-Err
unfolding strict_script
returns-in-Err g c = stopped_here _ _ c.in-Err.ensures.err c.in-Err.ensures.fetched c.in-Err.ensures.kept c.in-Err.ensures.grows
