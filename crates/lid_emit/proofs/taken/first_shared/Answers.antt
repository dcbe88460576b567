use Rattle.std.proofs.Common.{◌||◌, Bool, ◌∙◌, ap}
use Rattle.lid_design.specs.Columns.{is_among}
use Rattle.lid_check_names.proofs.Lists.{is_among_firsts}
use Rattle.lid_check_ports.proofs.Sets.{find_same}
use Rattle.lid_emit_meaning.specs.Ports.{own_names}
use Rattle.lid_emit.specs.Taken.{is_taken}
use Rattle.lid_emit.proofs.taken.first_shared.Goals as goal

pub returns : goal.returns
returns c =
    let inputs = c.args.inputs.now in
    let outputs = c.args.outputs.now in
    let same = find_same (is_taken c.in_ok-outputs.outputs) (is_taken outputs) inputs (λ name. ap (λ (b : Bool). is_among name own_names || b) (ap (is_among name) c.in_ok-outputs.ensures ∙ is_among_firsts name outputs)) in
    c.first_of.ensures ∙ same
