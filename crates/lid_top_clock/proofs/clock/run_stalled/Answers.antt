use Rattle.std.proofs.Common.{List, ℕ, Option, sym, subst}
use Rattle.lid_top_script.specs.Scripts.{rows_limit, vec_reading, vec_script}
use Rattle.lid_top_script.specs.Causes.{Got}
use Rattle.lid_top_script.proofs.Composition.{cause_here}
use Rattle.lid_top_script.proofs.EarlyFetches.{early_within, early_stopped}
use Rattle.lid_top_script.proofs.Fetched.{made_read}
use Rattle.lid_top_script.proofs.Going.{goes_here}
use Rattle.lid_top_script.proofs.Within.{within_read, runs_within, runs_stopped}
use Rattle.lid_top_clock.proofs.clock.run_stalled.Goals as goal

pub returns-in-Ok-clause-ran : goal.returns-in-Ok-clause-ran
unfolding vec_script
returns-in-Ok-clause-ran g c =
    let has = c.in-Ok.ensures.ok in
    let still = subst (λ (held : List ℕ → Option (List ℕ)). Got held c.args.asked.now.vec.now rows_limit (vec_reading c.args.wrapped.now.design) has.rows) (sym c.in-Ok.ensures.kept) has.got in
    runs_within (within_read _ _ _ _ _ has.rows has.got) c.in-Ok.ensures.kept c.in-Ok.ensures.grows (c.run_counted.ensures.ran has.rows (still, has.many))

pub returns-in-Err-clause-ran : goal.returns-in-Err-clause-ran
unfolding vec_script
returns-in-Err-clause-ran g c = runs_stopped (cause_here _ _ _ _ _ _ _ c.in-Err.stop c.in-Err.ensures.err)

pub returns-in-Ok-clause-fetched : goal.returns-in-Ok-clause-fetched
unfolding vec_script
returns-in-Ok-clause-fetched g c =
    let has = c.in-Ok.ensures.ok in
    let still = subst (λ (held : List ℕ → Option (List ℕ)). Got held c.args.asked.now.vec.now rows_limit (vec_reading c.args.wrapped.now.design) has.rows) (sym c.in-Ok.ensures.kept) has.got in
    early_within (made_read _ has.rows has.got c.in-Ok.ensures.fetched c.in-Ok.ensures.kept) (c.run_counted.ensures.fetched has.rows (still, has.many))

pub returns-in-Err-clause-fetched : goal.returns-in-Err-clause-fetched
unfolding vec_script
returns-in-Err-clause-fetched g c = early_stopped (λ calls p. goes_here _ _ _ _ _ _ (g.S.Shelf.faults c.args.shelf.now) (g.S.Shelf.faults c.count_rows.new.shelf) c.in-Err.stop calls c.in-Err.ensures.err p) c.in-Err.ensures.fetched
