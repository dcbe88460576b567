use Rattle.lid_base.proofs.Results.{if_ok}
use Rattle.lid_emit.proofs.Named.{are_cells}
use Rattle.lid_emit.proofs.naming.name_cells.Goals as goal

pub returns : goal.returns
returns c =
    let inputs = c.inputs-inputs in
    let outputs = c.outputs-outputs in
    let prefix = c.in_ok-prefix in
    if_ok c.make_cells.result (λ cells each.
    are_cells c.args.checked.now c.args.all.now cells.items inputs.result.now outputs.result.now prefix.prefix.items c.as_slice.result.now inputs.ensures.names outputs.ensures.names c.as_slice.ensures.value prefix.ensures.short prefix.ensures.free each) c.make_cells.ensures
