use Rattle.std.proofs.Common.{arith}
use Rattle.lid_check_elab.proofs.Counting.{nets_small}
use Rattle.lid_check_elab.proofs.places.count_nets.Goals as goal

pub overflow_cast-result : goal.overflow_cast-result
overflow_cast-result c =
    let few = nets_small c.args.judged.now c.design.ensures.judged c.args.model c.requires in
    let same = c.count_nets.ensures.value in
    omega arith
