use Rattle.std.proofs.Common.{◌≡◌, ◌||◌, not, find, drop}
use Rattle.lid_design.specs.Models.{is_buffer, is_constant}
use Rattle.std.specs.List.{AllByRecursion}
use Rattle.lid_design.specs.WellFormed.{IsWellFormedCell}
use Rattle.lid_check_rules.proofs.root.find_logic.Given as goal

abbrev pub invariant-loop-cell : goal.invariant-loop-cell
invariant-loop-cell l = (AllByRecursion IsWellFormedCell (drop l.cell-index l.cells)) × (find (λ cell. not (is_buffer cell || is_constant cell)) (drop l.cell-index l.cells) ≡ find (λ cell. not (is_buffer cell || is_constant cell)) l.cells)
