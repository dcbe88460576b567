use Rattle.std.proofs.Common.{◌<◌, ◌≤◌, ◌^◌, length, ap, arith, sym, subst}
use Rattle.lid_base.proofs.Results.{if_ok}
use Rattle.lid_design.specs.declared.Design.{Design}
use Rattle.lid_design.specs.WellFormed.{IsWellFormed}
use Rattle.lid_blif.specs.Joins.{lines_cut}
use Rattle.lid_blif.proofs.Texts.{logical_lines_le, lines_formed, lines_few}
use Rattle.lid_blif.proofs.reader.read.Goals as goal

pub returns-in-Ok-clause-formed : goal.returns-in-Ok-clause-formed
returns-in-Ok-clause-formed c =
    let lines = lines_cut c.in-Ok.list.sizes.items c.in-Ok.list.words in
    let few : length lines < 2 ^ 32 = omega (arith, ap length c.in-Ok.ensures.ok.1, logical_lines_le c.args.bytes.now) in
    if_ok c.design_of_list.result (λ d h. subst IsWellFormed (sym h.1) (lines_formed lines few h.0)) c.design_of_list.ensures.ok

pub returns-in-Ok-clause-few : goal.returns-in-Ok-clause-few
returns-in-Ok-clause-few c =
    let lines = lines_cut c.in-Ok.list.sizes.items c.in-Ok.list.words in
    if_ok c.design_of_list.result (λ d h. subst (λ (d : Design). length d.models ≤ 4096) (sym h.1) (lines_few lines h.0)) c.design_of_list.ensures.ok
