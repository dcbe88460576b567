use Rattle.std.proofs.Common.{arith}
use Rattle.lid_size.proofs.Kept.{parts_few}
use Rattle.lid_size.proofs.comparing.find_low.Goals as goal

pub overflow_cast-result : goal.overflow_cast-result
overflow_cast-result c =
    let given = c.requires.compared in
    let few = parts_few given.0 given.1 c.args.cert.now c.args.wants.now given.2 in
    omega (arith, few, c.loop-i-test.true)
