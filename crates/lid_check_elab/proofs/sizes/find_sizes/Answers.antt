use Rattle.std.proofs.Common.{◌<◌, ◌≤◌, ℕ, List, Option, Some, length, get_or, set, sym, ◌∙◌, ap, subst, arith}
use Rattle.lid_base.proofs.Lists.{among_at}
use Rattle.lid_check_elab.specs.Parts.{HasSizes}
use Rattle.lid_check_elab.proofs.Counting.{sizes_known, sizes_next, sizes_end, model_below}
use Rattle.lid_check_elab.proofs.sizes.find_sizes.Goals as goal

pub sum_sizes-size-requires-clause-reached : goal.sum_sizes-size-requires-clause-reached
sum_sizes-size-requires-clause-reached c =
    let h : c.loop-model.model-index < length c.order-order.result.now = omega arith in
    c.order-order.ensures.only (get_or c.order-order.result.now c.loop-model.model-index 0) (among_at c.order-order.result.now c.loop-model.model-index 0 h)

pub sum_sizes-size-requires-clause-sizes : goal.sum_sizes-size-requires-clause-sizes
sum_sizes-size-requires-clause-sizes c =
    let h : c.loop-model.model-index < length c.order-order.result.now = omega arith in
    let order = c.order-order.result.now in
    let d = c.args.judged.now in
    subst (λ (ns : List (Option ℕ)). HasSizes d (get_or order c.loop-model.model-index 0) ns) (sym c.as_slice.ensures.value) (sizes_known d order c.order-order.ensures c.loop-model.model-index h c.loop-model.sizes.items c.loop-model.invariant)

pub put_size-requires : goal.put_size-requires
put_size-requires c =
    let h : c.loop-model.model-index < length c.order-order.result.now = omega arith in
    let at = get_or c.order-order.result.now c.loop-model.model-index 0 in
    let below = model_below c.args.judged.now c.design.ensures.judged at (c.order-order.ensures.only at (among_at c.order-order.result.now c.loop-model.model-index 0 h)) in
    let long = c.loop-model.invariant.long in
    omega arith

pub loop-model-preserved : goal.loop-model-preserved
loop-model-preserved c =
    let h : c.loop-model.model-index < length c.order-order.result.now = omega arith in
    let order = c.order-order.result.now in
    let at = get_or order c.loop-model.model-index 0 in
    let d = c.args.judged.now in
    let below = model_below d c.design.ensures.judged at (c.order-order.ensures.only at (among_at order c.loop-model.model-index 0 h)) in
    sizes_next d order c.order-order.ensures c.loop-model.model-index h c.loop-model.sizes.items c.loop-model.invariant c.put_size.new.sizes.items below (c.put_size.ensures ∙ ap (λ (n : ℕ). set c.loop-model.sizes.items at (Some n)) c.sum_sizes-size.ensures)

pub returns : goal.returns
returns c =
    let past : length c.order-order.result.now ≤ c.loop-model.model-index = let f = c.loop-model-test.false in omega arith in
    sizes_end c.args.judged.now c.order-order.result.now c.order-order.ensures c.loop-model.model-index past c.loop-model.sizes.items c.loop-model.invariant
