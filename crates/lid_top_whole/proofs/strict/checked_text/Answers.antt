use Rattle.lid_top_script.specs.Scripts.{checked_script}
use Rattle.lid_top_script.proofs.Fetched.{made_checked, by_within, stopped_unchecked}
use Rattle.lid_top_whole.proofs.strict.checked_text.Goals as goal

pub returns-in-Ok : goal.returns-in-Ok
unfolding checked_script
returns-in-Ok g c = by_within (made_checked c.in-Ok.ensures.ok) c.rows_text.ensures

pub returns-in-Err : goal.returns-in-Err
unfolding checked_script
returns-in-Err g c = stopped_unchecked c.in-Err.ensures.err
