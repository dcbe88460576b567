use Rattle.std.proofs.Common.{◌<◌, length, arith}
use Rattle.lid_base.proofs.Lists.{among_at}
use Rattle.lid_check_tests.proofs.counts.counted.Goals as goal

pub count_model-requires : goal.count_model-requires
count_model-requires c =
    let h : c.loop-model.model-index < length c.reached-model-items.result.now = omega arith in
    (c.reached-model-items.ensures.each _).0 (among_at c.reached-model-items.result.now c.loop-model.model-index 0 h)
