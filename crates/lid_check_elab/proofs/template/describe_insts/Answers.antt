use Rattle.lid_check_elab.proofs.Binding.{sub_reached}
use Rattle.lid_check_elab.proofs.template.describe_insts.Goals as goal

pub offsets_of-requires-clause-sizes : goal.offsets_of-requires-clause-sizes
offsets_of-requires-clause-sizes c i j names = c.requires.sizes.each j (sub_reached c.args.judged.now c.args.model c.requires.reached i j names)
