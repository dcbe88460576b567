-- The cells of a plan under names of its ports and a prefix.
use Rattle.std.proofs.Common.{◌≡◌, ℕ, List, ◌++◌, flat_map, ◌∙◌, ap, subst}
use Rattle.lid_design.specs.declared.Design.{Design}
use Rattle.lid_design.specs.declared.Cell.{Cell}
use Rattle.lid_design.specs.Columns.{root_inputs, root_outputs}
use Rattle.lid_emit_circuit.specs.Wires.{Wire}
use Rattle.lid_emit_circuit.specs.Plans.{CircuitPlan}
use Rattle.lid_emit_circuit.specs.Lists.{wires}
use Rattle.lid_emit_names.specs.Named.{cells_driving}
use Rattle.lid_emit_names.specs.Spelling.{name_of, IsFree}
use Rattle.lid_emit_cells.specs.declared.all.All.{All}
use Rattle.lid_emit_cells.specs.Shown.{design_ports}
use Rattle.lid_emit_cells.specs.Matches.{IsAllOf}
use Rattle.lid_emit.specs.Prefixes.{IsShortPrefix}
use Rattle.lid_emit.specs.Steps.{AreCells}

-- the cells of all wires of a plan
abbrev cells_with : CircuitPlan → List (List ℕ) → List (List ℕ) → List ℕ → List Cell
cells_with q inputs outputs prefix = flat_map (cells_driving q (λ (wire : Wire). name_of (design_ports inputs outputs) prefix wire)) (wires q)

pub are_cells : (d : Design) (all : All) (cells : List Cell) (inputs outputs : List (List ℕ)) (prefix text : List ℕ) → inputs ≡ root_inputs d → outputs ≡ root_outputs d → text ≡ prefix → IsShortPrefix prefix → IsFree prefix (inputs ++ outputs) → ((q : CircuitPlan) → IsAllOf q all → cells ≡ cells_with q inputs outputs text) → AreCells d all cells
are_cells d all cells inputs outputs prefix text ins outs same short free each = record {
  prefix = prefix;
  short = short;
  free = subst (λ (xs : List (List ℕ)). IsFree prefix (xs ++ root_outputs d)) ins (subst (λ (xs : List (List ℕ)). IsFree prefix (inputs ++ xs)) outs free);
  each = λ q is.
      each q is
      ∙ ap (λ (xs : List (List ℕ)). cells_with q xs outputs text) ins
      ∙ ap (λ (xs : List (List ℕ)). cells_with q (root_inputs d) xs text) outs
      ∙ ap (cells_with q (root_inputs d) (root_outputs d)) same;
}
