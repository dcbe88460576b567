-- One more actor is ready.
use Rattle.std.proofs.Common.{arith}
use Rattle.lid_clock.specs.Starts.{IsSized}
use Rattle.lid_base.proofs.Upto.{none_yet, next_meets, one_more, each_was}
use Rattle.lid_clock.proofs.readying.make_all_ready.Goals as goal

pub make_ready-requires : goal.make_ready-requires
make_ready-requires c =
    next_meets _ IsSized c.loop-v.v c.args.actors.now c.loop-v.actors c.index-actors-v.result c.loop-v.invariant (omega arith) c.index-actors-v.is
    (c.requires c.loop-v.v c.index-actors-v.result)

pub loop-v-init : goal.loop-v-init
loop-v-init c = none_yet _ _

pub loop-v-preserved : goal.loop-v-preserved
loop-v-preserved c =
    one_more _ c.loop-v.v c.args.actors.now c.loop-v.actors c.index-actors-v.result c.make_ready.new.self c.loop-v.invariant (omega arith) c.index-actors-v.is
    c.in_ok-make_ready.ensures

pub returns : goal.returns
returns c = record { many = c.loop-v.invariant.many; each = each_was _ c.args.actors.now c.loop-v.actors c.loop-v.v c.loop-v.invariant (omega (arith, c.loop-v-test.false)) }
