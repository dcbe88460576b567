use Rattle.std.proofs.Common.{map}
use Rattle.lid_base.proofs.Places.{get_map, item_read}
use Rattle.lid_design.specs.Models.{actual_of}
use Rattle.lid_check_elab.specs.Templates.{model_names}
use Rattle.lid_check_elab.proofs.Naming.{name_read}
use Rattle.lid_check_elab.proofs.driven.push_binds.Goals as goal

pub push_bind-requires-clause-actual : goal.push_bind-requires-clause-actual
push_bind-requires-clause-actual c =
    let xs = c.args.binds.now in
    let x = c.index-binds-i.result in
    name_read (model_names c.args.judged.now c.args.at.model) (map actual_of xs) c.args.actuals.now c.loop-i.i x.actual c.requires.actuals (get_map actual_of xs c.loop-i.i x (item_read xs c.loop-i.i x c.loop-i-test.true c.index-binds-i.is))
