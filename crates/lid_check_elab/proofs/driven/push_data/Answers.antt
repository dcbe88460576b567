use Rattle.lid_base.proofs.Places.{item_read}
use Rattle.lid_check_elab.specs.Templates.{model_names}
use Rattle.lid_check_elab.proofs.Naming.{name_read}
use Rattle.lid_check_elab.proofs.driven.push_data.Goals as goal

pub push_input-requires-clause-number : goal.push_input-requires-clause-number
push_input-requires-clause-number c =
    name_read (model_names c.args.judged.now c.args.model) c.args.names.now c.args.numbers.now c.loop-i.i c.index-names-i.result c.requires.numbers (item_read c.args.names.now c.loop-i.i c.index-names-i.result c.loop-i-test.true c.index-names-i.is)
