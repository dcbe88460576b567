use Rattle.std.proofs.Common.{min, ap, ◌∙◌, arith}
use Rattle.lid_design.specs.declared.Design.{Design}
use Rattle.lid_emit_meaning.specs.Sizes.{over_pearls, cells_size_in}
use Rattle.lid_emit.proofs.Pearled.{sizes_are}
use Rattle.lid_emit.proofs.size.pearls_size.Goals as goal

pub returns : goal.returns
returns c =
    let d = c.args.checked.now in
    let survey = c.in_ok-survey.ensures.survey in
    let cells = c.in_ok-cells.ensures ∙ ap (λ (d : Design). min (over_pearls d (cells_size_in d)) 18446744073709551615) survey in
    let pearls = c.pearls.ensures in
    let sum = c.saturating_add.ensures in
    let all = sizes_are d c.in_ok-survey.ensures.known in
    omega arith
