use Rattle.lid_emit_circuit.proofs.Outside.{tells_stop, tells_rows, is_quiet}
use Rattle.lid_emit_circuit.proofs.laws.circuits_tell_their_environment.Goals as goal

pub returns : goal.returns
returns c = record {
  stops = λ q plan rows b k strict below. tells_stop q plan rows b strict k below;
  rows = λ q plan rows b k strict below. tells_rows q plan rows b strict k below;
  quiet = λ q plan rows b k strict below j wire here void. is_quiet q plan rows b strict k below j wire here void;
}
