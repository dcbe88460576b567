use Rattle.lid_emit_circuit.proofs.Levels.{levels_show, wires_show}
use Rattle.lid_emit_circuit.proofs.laws.circuits_follow_counts.Goals as goal

pub returns : goal.returns
returns c = record {
  levels = λ q plan rows b k strict below. levels_show q plan rows b strict k below;
  fires = λ q plan rows b k strict below v actor. wires_show q plan rows b strict k v below actor;
}
