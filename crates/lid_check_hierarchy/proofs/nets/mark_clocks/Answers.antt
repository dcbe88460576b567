use Rattle.std.proofs.Common.{filter, subst, ◌∙◌, sym}
use Rattle.lid_base.proofs.Results.{if_ok}
use Rattle.lid_check_names.specs.Names.{is_among}
use Rattle.lid_check_table.specs.Tables.{names_in, AreNumbersOf}
use Rattle.lid_check_hierarchy.proofs.Placing.{known_numbers, known_marks}
use Rattle.lid_check_hierarchy.proofs.nets.mark_clocks.Goals as goal

pub returns : goal.returns
returns c =
    let names = names_in c.args.table.now in
    let clocks = c.args.clocks.now in
    let known = filter (λ n. is_among n names) clocks in
    let are : AreNumbersOf names known c.as_slice.result.now = subst (AreNumbersOf names known) (sym (c.as_slice.ensures.value ∙ c.in_ok-numbers.ensures)) (known_numbers names clocks) in
    if_ok c.mark_names.result (λ marks told. told known are ∙ known_marks names clocks) c.mark_names.ensures
