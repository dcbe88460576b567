use Rattle.lid_top.proofs.Clocked.{job_ran, job_fetched}
use Rattle.lid_top.proofs.job.run_early.Goals as goal

pub returns-clause-ran : goal.returns-clause-ran
returns-clause-ran g c = job_ran c.in-Clock.is c.of.ensures.net c.as_str.ensures c.of.ensures.stations c.of.ensures.root c.run_clock.ensures.ran

pub returns-clause-fetched : goal.returns-clause-fetched
returns-clause-fetched g c = job_fetched c.run_clock.result c.in-Clock.is c.of.ensures.net c.as_str.ensures c.of.ensures.stations c.of.ensures.root c.run_clock.ensures.fetched
