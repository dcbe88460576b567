use Rattle.lid_top_script.specs.Scripts.{report_script, check_script}
use Rattle.lid_top_script.proofs.Fetched.{made_found, by_given, stopped_unbuilt}
use Rattle.lid_top_whole.proofs.check.check_text.Goals as goal

pub returns-in-Ok : goal.returns-in-Ok
unfolding check_script report_script
returns-in-Ok g c = by_given (made_found report_script _ c.in-Ok.ensures.ok c.in-Ok.ensures.fetched c.in-Ok.ensures.kept) c.graphed_text.ensures.ok c.graphed_text.ensures.err

pub returns-in-Err : goal.returns-in-Err
unfolding check_script
returns-in-Err g c = stopped_unbuilt _ report_script c.in-Err.ensures.err c.in-Err.ensures.fetched c.in-Err.ensures.kept c.in-Err.ensures.grows
