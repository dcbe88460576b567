use Rattle.std.proofs.Common.{List, map, ◌∙◌, ap}
use Rattle.lid_check_names.specs.Names.{firsts}
use Rattle.lid_design.specs.declared.Model.{Model}
use Rattle.lid_check_hierarchy.specs.Graphs.{name_of, row_by}
use Rattle.lid_check_hierarchy.proofs.Numbers.{few_names, rows_are}
use Rattle.lid_base.proofs.Results.{if_ok}
use Rattle.lid_check_hierarchy.proofs.uses.number_instances.Goals as goal

pub number_rows-requires : goal.number_rows-requires
number_rows-requires c =
    few_names c.args.design.now c.requires c.in_ok-names.names (c.in_ok-names.ensures ∙ ap (λ (ms : List Model). firsts (map name_of ms)) c.as_slice.ensures)

pub returns : goal.returns
returns c =
    let names = c.in_ok-names.names in
    let whole = c.in_ok-names.ensures ∙ ap (λ (ms : List Model). firsts (map name_of ms)) c.as_slice.ensures in
    if_ok c.number_rows.result (λ rows e. e ∙ ap (map (row_by names)) c.as_slice-2.ensures ∙ rows_are c.args.design.now c.requires names whole) c.number_rows.ensures
