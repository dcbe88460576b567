use Rattle.std.proofs.Common.{◌<◌, ◌&&◌, length, arith}
use Rattle.std.specs.Str.{bytes_eq}
use Rattle.lid_design.specs.Columns.{is_among}
use Rattle.lid_check_names.specs.Names.{texts}
use Rattle.lid_check_hierarchy.proofs.Growing.{grows_item}
use Rattle.lid_check_hierarchy.proofs.clocks.add_actuals.Goals as goal

pub loop-bind-preserved : goal.loop-bind-preserved
loop-bind-preserved c =
    let h : c.loop-bind.bind-index < length c.args.binds.now = omega arith in
    grows_item (λ net b. bytes_eq b.actual net && is_among b.formal c.args.formals.now) c.args.binds.now c.loop-bind.bind-index c.bind-item.result h c.bind-item.is (texts c.args.list.now.items) (texts c.loop-bind.list.items) (texts c.add_actual.new.list.items) c.loop-bind.invariant c.in_ok-add_actual.ensures
