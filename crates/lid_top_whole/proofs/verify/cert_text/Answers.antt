use Rattle.lid_top_script.specs.Scripts.{cert_script}
use Rattle.lid_top_script.proofs.Fetched.{made_read, by_anywhere, stopped_here}
use Rattle.lid_top_whole.proofs.Judging.{judging_fetches_nothing}
use Rattle.lid_top_whole.proofs.verify.cert_text.Goals as goal

pub returns-in-Ok : goal.returns-in-Ok
unfolding cert_script
returns-in-Ok g c = by_anywhere (made_read _ _ c.in-Ok.ensures.ok c.in-Ok.ensures.fetched c.in-Ok.ensures.kept) (judging_fetches_nothing _ _ _) c.judged_text.ensures

pub returns-in-Err : goal.returns-in-Err
unfolding cert_script
returns-in-Err g c = stopped_here _ _ c.in-Err.ensures.err c.in-Err.ensures.fetched c.in-Err.ensures.kept c.in-Err.ensures.grows
