use Rattle.std.proofs.Common.{◌∙◌}
use Rattle.lid_blif.proofs.scan.is_known.Goals as goal

pub returns : goal.returns
returns c = λ earlier h. c.contains.ensures ∙ h c.args.name.now
