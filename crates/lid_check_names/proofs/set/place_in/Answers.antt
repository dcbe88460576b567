use Rattle.std.proofs.Common.{◌∙◌}
use Rattle.lid_check_names.proofs.Lists.{position_held}
use Rattle.lid_check_names.proofs.set.place_in.Goals as goal

pub returns : goal.returns
returns c = c.get_index_of.ensures.index ∙ position_held c.args.name.now c.args.set.now.keys
