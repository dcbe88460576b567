use Rattle.std.proofs.Common.{◌<◌, length, arith}
use Rattle.std.specs.Str.{bytes_eq}
use Rattle.lid_check_names.specs.Names.{texts}
use Rattle.lid_check_hierarchy.proofs.Growing.{grows_item}
use Rattle.lid_check_hierarchy.proofs.clocks.add_names.Goals as goal

pub loop-name-preserved : goal.loop-name-preserved
loop-name-preserved c =
    let h : c.loop-name.name-index < length c.args.names.now = omega arith in
    grows_item bytes_eq c.args.names.now c.loop-name.name-index c.name-item.result h c.name-item.is (texts c.args.list.now.items) (texts c.loop-name.list.items) (texts c.add_name.new.list.items) c.loop-name.invariant c.in_ok-add_name.ensures
