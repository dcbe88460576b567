use Rattle.std.proofs.Common.{◌∙◌}
use Rattle.lid_check_names.proofs.Lists.{is_among_held}
use Rattle.lid_check_names.proofs.set.is_in.Goals as goal

pub returns : goal.returns
returns c = c.contains.ensures ∙ is_among_held c.args.name.now c.args.set.now.keys
