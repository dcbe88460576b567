use Rattle.std.proofs.Common.{◌<◌, ◌≤◌, ℕ, List, length, get_or, slice_index_or, min, sym, ◌∙◌, ap, subst, arith}
use Rattle.std.proofs.Math.ListN.{length-set}
use Rattle.std.proofs.lemmas.List.{take_all}
use Rattle.lid_base.specs.Lists.{Among}
use Rattle.lid_base.proofs.Lists.{among_at}
use Rattle.lid_check_models.specs.Counts.{count_by_subs}
use Rattle.lid_check_models.proofs.Counting.{counted_more}
use Rattle.lid_check_models.proofs.counts.count_each.Goals as goal
use Rattle.lid_check_hierarchy.proofs.Walks.{reached_below}

pub count_from-count-requires : goal.count_from-count-requires
count_from-count-requires c =
    let h : c.loop-k.k-index < length c.order-order.result.now = omega arith in
    c.order-order.ensures.only _ (among_at c.order-order.result.now c.loop-k.k-index 0 h)

pub index_mut-requires : goal.index_mut-requires
index_mut-requires c =
    let h : c.loop-k.k-index < length c.order-order.result.now = omega arith in
    let long = c.loop-k.invariant.long in
    let below : get_or c.order-order.result.now c.loop-k.k-index 0 < length c.args.survey.now.models = reached_below c.args.survey.now c.design.ensures.formed _ (c.order-order.ensures.only _ (among_at c.order-order.result.now c.loop-k.k-index 0 h)) in
    omega arith

pub loop-k-preserved : goal.loop-k-preserved
loop-k-preserved c =
    let h : c.loop-k.k-index < length c.order-order.result.now = omega arith in
    let value = c.count_from-count.ensures ∙ ap (λ (xs : List ℕ). min (count_by_subs c.args.what c.args.survey.now (λ j. slice_index_or xs j 0) (get_or c.order-order.result.now c.loop-k.k-index 0)) 18446744073709551615) c.as_slice.ensures.value in
    record {
      long = length-set c.loop-k.counts.items (get_or c.order-order.result.now c.loop-k.k-index 0) c.count_from-count.result ∙ c.loop-k.invariant.long;
      done = counted_more c.args.what c.args.survey.now c.design.ensures.formed c.order-order.result.now c.order-order.ensures c.loop-k.k-index h c.loop-k.counts.items c.loop-k.invariant.long c.loop-k.invariant.done c.count_from-count.result value;
    }

pub returns : goal.returns
returns c k reached =
    let past : length c.order-order.result.now ≤ c.loop-k.k-index = omega arith in
    c.loop-k.invariant.done k (subst (Among k) (sym (take_all c.loop-k.k-index c.order-order.result.now past)) (c.order-order.ensures.each k reached))
