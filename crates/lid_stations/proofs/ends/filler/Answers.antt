use Rattle.std.proofs.Common.{arith}
use Rattle.lid_stations.proofs.Standing.{few_up_to}
use Rattle.lid_stations.proofs.ends.filler.Goals as goal

pub overflow_add-result : goal.overflow_add-result
overflow_add-result c = let most = few_up_to c.args.system.now c.args.placement.now c.args.c c.args.place c.args.first c.requires in omega arith
