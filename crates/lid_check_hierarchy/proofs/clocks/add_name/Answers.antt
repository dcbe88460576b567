use Rattle.lid_base.proofs.Results.{on_ok}
use Rattle.lid_check_names.specs.Names.{texts}
use Rattle.lid_check_hierarchy.proofs.Growing.{grows_name}
use Rattle.lid_check_hierarchy.proofs.clocks.add_name.Goals as goal

pub returns : goal.returns
returns c = on_ok c.push_name.result (grows_name (texts c.args.list.now.items) (texts c.push_name.new.list.items) c.args.name.now) c.push_name.ensures
