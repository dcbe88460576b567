use Rattle.std.proofs.Common.{◌≡◌, ℕ, ◌+◌, refl, arith, List, [], ◌∷◌, length, map, length-append}
use Rattle.std.proofs.lemmas.List.{length-map}
use Rattle.lid_base.specs.Each.{from_each}
use Rattle.lid_emit_circuit.specs.Wires.{Wire, entry, offer, block}
use Rattle.lid_emit_circuit.specs.Plans.{CircuitPlan}
use Rattle.lid_emit_names.specs.Named.{input_wires}
use Rattle.lid_emit_names.proofs.Cells.{as_many}
use Rattle.lid_emit_names.proofs.Plain.{formed, plain, heights, rising, late, apart}
use Rattle.lid_emit_names.proofs.Tables.{runs}
use Rattle.lid_base.proofs.Each.{each_length}
use Rattle.lid_emit_names.proofs.laws.named_designs_are_accepted.Goals as goal

inputs_long : (q : CircuitPlan) (name : Wire → List ℕ) → length (map name (input_wires q)) ≡ q.inputs + 2
inputs_long q name =
    let all : length (map name (input_wires q)) ≡ length (input_wires q) = length-map (input_wires q) name in
    omega (arith, all, length-append (from_each entry 0 q.inputs) (offer ∷ block ∷ []), each_length entry 0 q.inputs)

pub returns : goal.returns
returns c = record {
  formed = λ q name root con. formed q con name root;
  accepted = λ q name root con naming few narrow.
      c.one_model_is_accepted.ensures.accepted _ _ (heights q con name root naming) (late q con name root naming) refl (plain q con name root naming) (rising q con name root naming) (apart q con name root naming)
      (omega (arith, as_many q con name, few))
      (omega (arith, as_many q con name, few, narrow, inputs_long q name));
  runs = λ q name root rows b con naming strict. runs q con name naming root rows b strict;
}
