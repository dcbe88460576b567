-- Each cycle counts one more, and after the last one the run is over.
use Rattle.std.proofs.Common.{◌≡◌, ◌<◌, ℕ, suc, ◌+◌, ◌-◌, ◌^◌, sym, ◌∙◌, subst, true≢false, arith}
use Rattle.lid_clock.specs.Clocks.{IsOver}
use Rattle.lid_clock.proofs.FreeLives.{few_cycles, is_over}
use Rattle.lid_parclock.proofs.run.run_on.Goals as goal

smaller : (made more : ℕ) → more ≡ suc made → made + 1 < 2 ^ 64 → 2 ^ 64 - more < 2 ^ 64 - made
smaller made more is few = omega arith

pub loop-smaller : goal.loop-smaller
loop-smaller g c =
    let l = c.requires.run.0 in
    let k = c.loop.clocked.made in
    let goes = c.go_on.ensures.made l k (c.loop.invariant l c.requires.run.1 c.requires.run.2) c.loop-test.true in
    let few = few_cycles l c.go_on.new.clocked.input.now.bits goes.free k (goes.needed k (omega arith)) in
    smaller k c.go_on.new.clocked.made goes.made few

pub returns-clause-over : goal.returns-clause-over
returns-clause-over g c l k start =
    let now = c.loop.clocked.made in
    let at = c.loop.invariant l k start in
    let goes = c.go_on.ensures.still l now at c.loop-test.false in
    let ends = c.go_on.ensures.below l now at in
    subst (IsOver l) (sym (c.made.ensures l now goes))
    (is_over l c.go_on.new.clocked.input.now.bits goes.free now goes.needed (λ below. true≢false (sym (ends.1 below) ∙ c.loop-test.false)))
