use Rattle.lid_top_script.specs.Scripts.{stalled_script}
use Rattle.lid_top_script.proofs.EarlyFetches.{early_within, early_stopped}
use Rattle.lid_top_script.proofs.Fetched.{made_stalled}
use Rattle.lid_top_script.proofs.Going.{goes_unstalled}
use Rattle.lid_top_script.proofs.Stalls.{cause_unstalled}
use Rattle.lid_top_script.proofs.Within.{within_stalled, runs_within, runs_stopped}
use Rattle.lid_top_clock.proofs.clock.run_wrapped.Goals as goal

pub returns-in-Ok-clause-ran : goal.returns-in-Ok-clause-ran
unfolding stalled_script
returns-in-Ok-clause-ran g c = runs_within (within_stalled _ _ _ c.in-Ok.stalls c.in-Ok.ensures.ok) c.in-Ok.ensures.kept c.in-Ok.ensures.grows c.run_stalled.ensures.ran

pub returns-in-Err-clause-ran : goal.returns-in-Err-clause-ran
unfolding stalled_script
returns-in-Err-clause-ran g c = runs_stopped (cause_unstalled _ _ _ _ _ c.in-Err.stop c.in-Err.ensures.err)

pub returns-in-Ok-clause-fetched : goal.returns-in-Ok-clause-fetched
unfolding stalled_script
returns-in-Ok-clause-fetched g c = early_within (made_stalled _ _ c.in-Ok.stalls c.in-Ok.ensures.ok c.in-Ok.ensures.fetched c.in-Ok.ensures.kept) c.run_stalled.ensures.fetched

pub returns-in-Err-clause-fetched : goal.returns-in-Err-clause-fetched
unfolding stalled_script
returns-in-Err-clause-fetched g c = early_stopped (λ calls p. goes_unstalled _ _ _ _ (g.S.Shelf.faults c.args.shelf.now) (g.S.Shelf.faults c.read_job_stalls.new.shelf) c.in-Err.stop calls c.in-Err.ensures.err p) c.in-Err.ensures.fetched
