use Rattle.std.proofs.Common.{◌∙◌, ap}
use Rattle.lid_base.proofs.Results.{if_both_ok}
use Rattle.lid_strict_engine.specs.declared.program.Program.{Program}
use Rattle.lid_strict_engine.specs.Programs.{program_covers}
use Rattle.lid_strict.proofs.simulation.engine_of.Goals as goal

pub returns : goal.returns
returns c =
    let copied = c.in_ok-program.ensures in
    if_both_ok c.by_width.result
    (λ x is same. record {
      is = is;
      nets = ap (λ (p : Program). p.nets) same ∙ copied.nets;
      covers = ap program_covers same ∙ copied.shown;
    })
    c.by_width.ensures.is c.by_width.ensures.program
