use Rattle.std.proofs.Common.{ap, map}
use Rattle.lid_check_names.proofs.Numbers.{few_insts}
use Rattle.lid_check_elab.specs.Templates.{shown_local, name_at}
use Rattle.lid_check_elab.proofs.Driving.{shows_all}
use Rattle.lid_check_elab.proofs.Few.{few_inputs, few_cells}
use Rattle.lid_check_elab.proofs.driven.driven_of.Goals as goal

pub push_inputs-requires-clause-few : goal.push_inputs-requires-clause-few
push_inputs-requires-clause-few c = few_inputs c.args.judged.now c.design.ensures.judged c.args.model c.requires.reached c.table_of-table.result.now c.table_of-table.ensures

pub push_cells-requires-clause-few : goal.push_cells-requires-clause-few
push_cells-requires-clause-few c = few_cells c.args.judged.now c.design.ensures.judged c.args.model c.requires.reached c.table_of-table.result.now c.table_of-table.ensures

pub push_insts-requires-clause-few : goal.push_insts-requires-clause-few
push_insts-requires-clause-few c = few_insts c.args.judged.now c.design.ensures.judged.formed c.args.model c.table_of-table.result.now c.table_of-table.ensures

pub returns : goal.returns
returns c =
    let d = c.args.judged.now in
    let k = c.args.model in
    shows_all d k c.table_of-table.result.now c.table_of-table.ensures c.in_ok-driven.driven c.push_inputs.new.into c.push_cells.new.into c.push_insts.new.into
    (ap (map (name_at d k)) c.in_ok-driven.ensures.nets)
    (ap (map (shown_local d)) c.in_ok-driven.ensures.locals)
    c.in_ok-push_inputs.ensures
    c.in_ok-push_cells.ensures
    c.in_ok-push_insts.ensures
