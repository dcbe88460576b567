use Rattle.std.proofs.Common.{◌≡◌, None, slice_get, sym, ◌∙◌, ap}
use Rattle.lid_design.specs.declared.Design.{Design}
use Rattle.lid_check_names.proofs.Numbers.{here_is}
use Rattle.lid_check_models.proofs.Counting.{never_past}
use Rattle.lid_check_models.proofs.counts.count_from.Goals as goal

pub returns-in-None : goal.returns-in-None
returns-in-None c =
    let past : slice_get c.args.survey.now.models c.args.k ≡ None = sym (ap (λ (d : Design). slice_get d.models c.args.k) c.design.ensures.same) ∙ here_is _ _ _ c.model_at.ensures c.in-None.is in
    absurd (never_past c.args.survey.now c.design.ensures.formed c.args.k c.requires past)
