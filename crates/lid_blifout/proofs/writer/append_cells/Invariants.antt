use Rattle.std.proofs.Common.{◌≡◌, ◌++◌, take}
use Rattle.std.specs.List.{flat_map}
use Rattle.lid_base_lines.specs.Texts.{lines_text}
use Rattle.lid_blifout.specs.Canonical.{cell_lines}
use Rattle.lid_base.specs.Lists.{Keeps}
use Rattle.lid_blifout.proofs.writer.append_cells.Given as goal

abbrev pub invariant-loop-cell : goal.invariant-loop-cell
invariant-loop-cell l = record {
  done : l.into.items ≡ l.fn.into.items ++ lines_text (flat_map cell_lines (take l.cell-index l.cells));
  kept : Keeps l.fn.into.items l.into.items;
}
