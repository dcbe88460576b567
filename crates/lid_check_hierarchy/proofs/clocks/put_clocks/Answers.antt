use Rattle.std.proofs.Common.{List, ℕ, ◌<◌, length, arith, get_or, subst}
use Rattle.lid_base.proofs.Lists.{among_at}
use Rattle.lid_check_hierarchy.specs.Clocks.{HasClocks}
use Rattle.lid_check_hierarchy.proofs.Clocking.{clocks_next}
use Rattle.lid_check_hierarchy.proofs.clocks.put_clocks.Goals as goal
use Rattle.lid_check_hierarchy.proofs.Walks.{reached_below}

pub clocks_of-requires-clause-exists : goal.clocks_of-requires-clause-exists
clocks_of-requires-clause-exists c =
    let h : c.loop-model.model-index < length c.args.order.now = omega arith in
    reached_below c.args.uses.now c.requires.formed _ (c.requires.order.only _ (among_at c.args.order.now c.loop-model.model-index 0 h))

pub put_at-requires : goal.put_at-requires
put_at-requires c =
    let h : c.loop-model.model-index < length c.args.order.now = omega arith in
    let below = reached_below c.args.uses.now c.requires.formed _ (c.requires.order.only _ (among_at c.args.order.now c.loop-model.model-index 0 h)) in
    let size = c.loop-model.invariant.size in
    omega arith

pub loop-model-preserved : goal.loop-model-preserved
loop-model-preserved c =
    let h : c.loop-model.model-index < length c.args.order.now = omega arith in
    let has = subst (λ (sets : List (List (List ℕ))). HasClocks c.args.uses.now sets (get_or c.args.order.now c.loop-model.model-index 0) c.in_ok-set.set) c.as_slice.ensures.value c.in_ok-set.ensures in
    clocks_next c.args.uses.now c.requires.formed c.args.order.now c.requires.order c.loop-model.model-index h c.loop-model.sets.items c.put_at.new.sets.items c.in_ok-set.set c.loop-model.invariant has c.in_ok-put_at.ensures.size c.in_ok-put_at.ensures.here c.in_ok-put_at.ensures.others
