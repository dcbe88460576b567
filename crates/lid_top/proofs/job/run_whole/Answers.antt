use Rattle.std.proofs.Common.{ap}
use Rattle.lid_base.proofs.Results.{if_err}
use Rattle.lid_top.proofs.Fetched.{job_written, job_untold}
use Rattle.lid_top.proofs.job.run_whole.Goals as goal

pub returns-in-Ok-clause-fetched : goal.returns-in-Ok-clause-fetched
returns-in-Ok-clause-fetched g c = job_written _ c.write_text.result c.in-Ok.ensures c.write_text.ensures.stopped

pub returns-in-Err-clause-fetched : goal.returns-in-Err-clause-fetched
returns-in-Err-clause-fetched g c = job_untold c.in-Err.stop c.in-Err.ensures

pub returns-in-Ok-clause-wanting : goal.returns-in-Ok-clause-wanting
returns-in-Ok-clause-wanting g c =
    if_err c.write_text.result (λ end stopped at. ap g.O.Sink.faults (stopped at).1) c.write_text.ensures.stopped
