use Rattle.std.proofs.Common.{◌<◌, length, arith}
use Rattle.lid_base.proofs.Lists.{among_at}
use Rattle.lid_check_tests.proofs.rules.are_models.Goals as goal

pub is_model-requires : goal.is_model-requires
is_model-requires c =
    let h : c.loop-k.k-index < length c.reached-reached.result.now = omega arith in
    (c.reached-reached.ensures.each _).0 (among_at c.reached-reached.result.now c.loop-k.k-index 0 h)
