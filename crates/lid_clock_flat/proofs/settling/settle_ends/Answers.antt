-- Each of the stations settles once.
use Rattle.std.proofs.Common.{◌≡◌, ℕ, length, refl, ◌∙◌, subst, arith}
use Rattle.lid_clock_flat.specs.Ends.{EndsSettle}
use Rattle.lid_clock_flat.proofs.Ending.{ends_none, ends_next, among_still, can_next}
use Rattle.lid_clock_flat.proofs.settling.settle_ends.Goals as goal

pub loop-i-init : goal.loop-i-init
loop-i-init c = record { settle = ends_none c.args.reads.now c.args.loses c.args.stations.now.all.items c.args.awake.now.items; kept = refl }

pub settle_end-requires-clause-can : goal.settle_end-requires-clause-can
settle_end-requires-clause-can c = can_next c.args.reads.now c.args.loses c.loop-i.i _ c.loop-i.stations.all.items _ c.loop-i.awake.items c.loop-i.invariant.settle c.loop-i-test.true c.requires.once c.requires.can

pub settle_end-requires-clause-among : goal.settle_end-requires-clause-among
settle_end-requires-clause-among c = among_still c.args.reads.now c.args.loses c.loop-i.i _ c.loop-i.stations.all.items _ c.loop-i.awake.items c.loop-i.invariant.settle c.requires.among

pub loop-i-preserved : goal.loop-i-preserved
loop-i-preserved c = record { settle = ends_next c.args.reads.now c.args.loses c.loop-i.i _ c.loop-i.stations.all.items _ _ c.loop-i.awake.items _ c.loop-i-test.true c.requires.once c.loop-i.invariant.settle c.settle_end.ensures.settles c.requires.among; kept = c.settle_end.ensures.kept ∙ c.loop-i.invariant.kept }

pub returns-clause-settle : goal.returns-clause-settle
returns-clause-settle c =
    let last : c.loop-i.i ≡ length c.args.reads.now = omega arith in
    subst (λ (n : ℕ). EndsSettle c.args.reads.now c.args.loses n c.args.stations.now.all.items c.loop-i.stations.all.items c.args.awake.now.items c.loop-i.awake.items) last c.loop-i.invariant.settle
