use Rattle.lid_emit_circuit.proofs.Tokens.{both_show}
use Rattle.lid_emit_circuit.proofs.Outside.{gives_row}
use Rattle.lid_emit_circuit.proofs.laws.circuits_carry_tokens.Goals as goal

pub returns : goal.returns
returns c = record {
  tokens = λ q plan rows b k strict below o carried. both_show q plan rows b strict o carried k below;
  rows = λ q plan rows b k strict below o j wire bits carried here takes rising within. gives_row q plan rows b strict k below o j wire bits carried here takes rising within;
}
