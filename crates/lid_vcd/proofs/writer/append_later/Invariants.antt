use Rattle.std.proofs.Common.{◌≡◌, ◌+◌, ◌*◌, ◌++◌, ◌≤◌, length}
use Rattle.lid_base.specs.Lists.{Keeps}
use Rattle.lid_base_lines.specs.Texts.{lines_text}
use Rattle.lid_vcd_form.specs.Text.{later_lines}
use Rattle.lid_vcd.proofs.writer.append_later.Given as goal

abbrev pub invariant-loop-left : goal.invariant-loop-left
invariant-loop-left l = record {
  done : l.into.items ++ lines_text (later_lines l.stations l.k l.left l.before l.rest) ≡ l.fn.into.items ++ lines_text (later_lines l.stations 1 l.cycles l.first l.cells);
  kept : Keeps l.fn.into.items l.into.items;
  long : length l.rest ≡ l.stations * l.left;
  few : l.k + l.left ≤ 1048577;
}

abbrev pub decreases-loop-left : goal.decreases-loop-left
decreases-loop-left l = l.left
