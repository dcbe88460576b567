use Rattle.std.proofs.Common.{sym, ◌∙◌, ap, subst}
use Rattle.lid_check_parts.specs.Parts.{HasCover}
use Rattle.lid_net.specs.Steps.{step_from}
use Rattle.lid_net.proofs.Stepping.{no_cover_step}
use Rattle.lid_net.proofs.step.step_of.Goals as goal

pub returns-in-None : goal.returns-in-None
returns-in-None c =
    let d = c.args.design.now in
    let cover = c.in-Cover in
    no_cover_step d cover.model cover.cell cover.inputs c.in-None.ensures (subst (HasCover d) cover.is c.requires) ∙ ap (step_from d) (sym cover.is)
