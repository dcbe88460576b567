use Rattle.std.proofs.Common.{◌<◌, length, arith}
use Rattle.lid_check_names.proofs.Lists.{collected}
use Rattle.lid_check_names.proofs.set.NameSet.collect.Goals as goal

pub loop-name-preserved : goal.loop-name-preserved
loop-name-preserved c =
    let h : c.loop-name.name-index < length c.args.names.now = omega arith in
    collected c.loop-name.set c.add.new.self c.args.names.now c.loop-name.name-index _ h c.loop-name.invariant c.in_ok-add.ensures.added
