use Rattle.std.proofs.Common.{not, ◌∙◌, ap, map}
use Rattle.lid_check_names.specs.Names.{bytes_of}
use Rattle.lid_check_names.proofs.Lists.{is_among_held, held_insert}
use Rattle.lid_check_names.proofs.set.add_to.Goals as goal

pub returns-clause-new : goal.returns-clause-new
returns-clause-new c = c.in_ok-new.ensures.added ∙ ap not (is_among_held c.args.name.now c.args.set.now.keys)

pub returns-clause-added : goal.returns-clause-added
returns-clause-added c = ap (map bytes_of) c.in_ok-new.ensures.keys ∙ held_insert c.args.set.now.keys (record { bytes = c.args.name })
