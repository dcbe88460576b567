use Rattle.std.proofs.Common.{◌<◌, flat_map, map, length, arith, ap, subst}
use Rattle.lid_design.specs.Models.{actual_names, actual_of}
use Rattle.lid_check_table.specs.Tables.{Enters}
use Rattle.lid_check_table.proofs.Growing.{enters_more, flat_grows}
use Rattle.lid_check_table.proofs.entering.enter_insts.Goals as goal

pub loop-inst-preserved : goal.loop-inst-preserved
loop-inst-preserved c =
    let below : c.loop-inst.inst-index < length c.args.insts.now = omega arith in
    let step = subst (Enters c.loop-inst.names c.enter_actuals.new.names c.loop-inst.numbers.items c.enter_actuals.new.numbers.items) (ap (map actual_of) c.as_slice.ensures) c.in_ok-enter_actuals.ensures in
    enters_more (flat_map actual_names) actual_names (flat_grows actual_names) c.args.names.now c.loop-inst.names c.enter_actuals.new.names c.args.numbers.now.items c.loop-inst.numbers.items c.enter_actuals.new.numbers.items c.args.insts.now c.loop-inst.inst-index c.inst-item.result c.inst-item.is below c.loop-inst.invariant step
