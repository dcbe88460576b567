use Rattle.std.proofs.Common.{refl, arith}
use Rattle.lid_top_script.specs.Scripts.{traced_script}
use Rattle.lid_top_script.proofs.Composition.{cause_declined}
use Rattle.lid_top_script.proofs.EarlyFetches.{early_within, early_declined}
use Rattle.lid_top_script.proofs.Fetched.{made_step}
use Rattle.lid_top_script.proofs.Within.{within_step, runs_within, runs_stopped}
use Rattle.lid_top_clock.proofs.clock.run_counted.Goals as goal

pub returns-in-Ok-clause-ran : goal.returns-in-Ok-clause-ran
unfolding traced_script
returns-in-Ok-clause-ran g c = λ rows counted.
    runs_within (within_step _ _ _ tt c.in-Ok.ensures.ok) refl (λ q. omega arith) (c.run_again.ensures.ran rows counted)

pub returns-in-Err-clause-ran : goal.returns-in-Err-clause-ran
unfolding traced_script
returns-in-Err-clause-ran g c = λ rows counted. runs_stopped (cause_declined _ _ _ _ _ c.in-Err.stop c.in-Err.ensures.err)

pub returns-in-Ok-clause-fetched : goal.returns-in-Ok-clause-fetched
unfolding traced_script
returns-in-Ok-clause-fetched g c = λ rows counted. early_within (made_step _ _ c.in-Ok.ensures.ok) (c.run_again.ensures.fetched rows counted)

pub returns-in-Err-clause-fetched : goal.returns-in-Err-clause-fetched
unfolding traced_script
returns-in-Err-clause-fetched g c = λ rows counted. early_declined _ _ c.in-Err.stop c.in-Err.ensures.err
