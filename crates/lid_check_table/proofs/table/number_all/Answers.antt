use Rattle.std.proofs.Common.{List, flat_map, ◌∙◌, ap, subst}
use Rattle.lid_design.specs.declared.Cell.{Cell}
use Rattle.lid_design.specs.declared.Inst.{Inst}
use Rattle.lid_design.specs.Models.{cell_names, actual_names}
use Rattle.lid_check_table.specs.Tables.{AreNumbersOf, AreCellNumbers, with_names}
use Rattle.lid_check_table.proofs.Numbers.{whole_names, all_numbers}
use Rattle.lid_check_table.proofs.table.number_all.Goals as goal

pub returns-clause-names : goal.returns-clause-names
returns-clause-names c =
    let m = c.args.model.now in
    whole_names m c.args.names.now c.number_ports.new.names c.number_cells.new.names c.number_actuals.new.names c.requires c.in_ok-ports.ensures.names
    (c.in_ok-cells.ensures.names ∙ ap (λ (cs : List Cell). with_names c.number_ports.new.names (flat_map cell_names cs)) c.as_slice.ensures)
    (c.in_ok-actuals.ensures.names ∙ ap (λ (is : List Inst). with_names c.number_cells.new.names (flat_map actual_names is)) c.as_slice-2.ensures)

pub returns-clause-numbers : goal.returns-clause-numbers
returns-clause-numbers c =
    let m = c.args.model.now in
    all_numbers m c.number_ports.new.names c.number_cells.new.names c.number_actuals.new.names _ _ _ _ _ _
    (returns-clause-names c)
    (c.in_ok-cells.ensures.names ∙ ap (λ (cs : List Cell). with_names c.number_ports.new.names (flat_map cell_names cs)) c.as_slice.ensures)
    (c.in_ok-actuals.ensures.names ∙ ap (λ (is : List Inst). with_names c.number_cells.new.names (flat_map actual_names is)) c.as_slice-2.ensures)
    c.in_ok-ports.ensures.numbers
    (subst (λ (cs : List Cell). AreCellNumbers cs c.number_cells.new.names c.in_ok-cells.cells.reads c.in_ok-cells.cells.outs) c.as_slice.ensures c.in_ok-cells.ensures.numbers)
    (subst (λ (is : List Inst). AreNumbersOf c.number_actuals.new.names (flat_map actual_names is) c.in_ok-actuals.actuals) c.as_slice-2.ensures c.in_ok-actuals.ensures.numbers)
