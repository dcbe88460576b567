use Rattle.lid_emit_names.proofs.Naming.{is_naming}
use Rattle.lid_emit_names.proofs.wires.wires_have_names.Goals as goal

pub returns : goal.returns
returns c = λ q ports prefix inputs outputs distinct free small. is_naming q ports prefix inputs outputs distinct free small
