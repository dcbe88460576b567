use Rattle.lid_emit_circuit.proofs.Cells.{each_cell}
use Rattle.lid_emit_circuit.proofs.Others.{known}
use Rattle.lid_emit_circuit.proofs.Listed.{are_listed}
use Rattle.lid_emit_circuit.proofs.wiring.wires_have_cells.Goals as goal

pub returns : goal.returns
returns c = record {
  some = λ q wire con is. each_cell q con wire is;
  listed = λ q con. are_listed q con;
  others = λ q wire source con there. known q source wire there;
}
