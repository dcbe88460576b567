use Rattle.lid_top.proofs.Clocked.{job_left}
use Rattle.lid_top.proofs.job.run_job.Goals as goal

pub returns-in-Clock-clause-done : goal.returns-in-Clock-clause-done
returns-in-Clock-clause-done g c = let ran = c.run_early.ensures.ran in ran.done

pub returns-in-Clock-clause-fails : goal.returns-in-Clock-clause-fails
returns-in-Clock-clause-fails g c = let ran = c.run_early.ensures.ran in ran.fails

pub returns-in-Clock-clause-left : goal.returns-in-Clock-clause-left
returns-in-Clock-clause-left g c = job_left c.in-Clock.is c.run_early.ensures.ran

pub returns-in-Clock-clause-unwritten : goal.returns-in-Clock-clause-unwritten
returns-in-Clock-clause-unwritten g c = let ran = c.run_early.ensures.ran in ran.unwritten
