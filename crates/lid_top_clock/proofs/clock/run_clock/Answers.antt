use Rattle.lid_top_script.specs.Scripts.{stalled_script, clock_script}
use Rattle.lid_top_script.proofs.EarlyFetches.{early_within, early_stopped}
use Rattle.lid_top_script.proofs.Fetched.{made_wrapped}
use Rattle.lid_top_script.proofs.Going.{goes_unwrapped}
use Rattle.lid_top_script.proofs.Placements.{cause_unwrapped}
use Rattle.lid_top_script.proofs.Within.{within_wrapped, runs_within, runs_stopped}
use Rattle.lid_top_clock.proofs.clock.run_clock.Goals as goal

pub returns-in-Ok-clause-ran : goal.returns-in-Ok-clause-ran
unfolding clock_script
returns-in-Ok-clause-ran g c =
    let a = c.args.asked.now in
    runs_within (within_wrapped _ _ _ _ (λ d l p. stalled_script d l p a.vec.now a.stalls.now a.trace) _ c.in-Ok.ensures.ok) c.in-Ok.ensures.kept c.in-Ok.ensures.grows c.run_wrapped.ensures.ran

pub returns-in-Err-clause-ran : goal.returns-in-Err-clause-ran
unfolding clock_script
returns-in-Err-clause-ran g c =
    let a = c.args.asked.now in
    runs_stopped (cause_unwrapped _ _ _ _ (λ d l p. stalled_script d l p a.vec.now a.stalls.now a.trace) _ _ c.in-Err.stop c.in-Err.ensures.err)

pub returns-in-Ok-clause-fetched : goal.returns-in-Ok-clause-fetched
unfolding clock_script
returns-in-Ok-clause-fetched g c =
    let a = c.args.asked.now in
    early_within (made_wrapped (λ d l p. stalled_script d l p a.vec.now a.stalls.now a.trace) _ c.in-Ok.ensures.ok c.in-Ok.ensures.fetched c.in-Ok.ensures.kept) c.run_wrapped.ensures.fetched

pub returns-in-Err-clause-fetched : goal.returns-in-Err-clause-fetched
unfolding clock_script
returns-in-Err-clause-fetched g c =
    let a = c.args.asked.now in
    early_stopped (λ calls p. goes_unwrapped _ _ _ _ _ (λ d l p. stalled_script d l p a.vec.now a.stalls.now a.trace) _ _ c.in-Err.stop calls p) c.in-Err.ensures.fetched
