use Rattle.std.proofs.Common.{◌≡◌, ◌<◌, ℕ, suc, ◌+◌, ◌-◌, ◌^◌, sym, ◌∙◌, subst, true≢false, arith}
use Rattle.lid_clock.specs.Clocks.{IsOver}
use Rattle.lid_clock.proofs.FreeLives.{few_cycles, is_over}
use Rattle.lid_clock.proofs.clocked.Clocked.run.Goals as goal

smaller : (made more : ℕ) → more ≡ suc made → made + 1 < 2 ^ 64 → 2 ^ 64 - more < 2 ^ 64 - made
smaller made more is few = omega arith

pub loop-smaller : goal.loop-smaller
loop-smaller c =
    let l = c.requires.0 in
    let k = c.loop.self.made in
    let goes = c.cycle.ensures.made l k (c.loop.invariant l c.requires.1 c.requires.2) c.loop-test.true in
    let few = few_cycles l c.cycle.new.self.input.now.bits goes.free k (goes.needed k (omega arith)) in
    smaller k c.cycle.new.self.made goes.made few

pub returns-clause-over : goal.returns-clause-over
returns-clause-over c l k start =
    let now = c.loop.self.made in
    let at = c.loop.invariant l k start in
    let goes = c.cycle.ensures.still l now at c.loop-test.false in
    let ends = c.cycle.ensures.below l now at in
    subst (IsOver l) (sym goes.made)
    (is_over l c.cycle.new.self.input.now.bits goes.free now goes.needed (λ below. true≢false (sym (ends.1 below) ∙ c.loop-test.false)))
