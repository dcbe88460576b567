use Rattle.std.proofs.Common.{◌≡◌, ◌+◌, ◌*◌, ◌++◌, ◌≤◌, length}
use Rattle.lid_base.specs.Lists.{Keeps}
use Rattle.lid_base_lines.specs.Texts.{lines_text}
use Rattle.lid_vcd_form.specs.Text.{shown_lines}
use Rattle.lid_vcd.proofs.writer.append_all.Given as goal

abbrev pub invariant-loop-rest : goal.invariant-loop-rest
invariant-loop-rest l = record {
  done : l.into.items ++ lines_text (shown_lines l.n l.rest) ≡ l.fn.into.items ++ lines_text (shown_lines 0 l.cells);
  kept : Keeps l.fn.into.items l.into.items;
  few : l.n + 3 * length l.rest ≤ 196608;
}

abbrev pub decreases-loop-rest : goal.decreases-loop-rest
decreases-loop-rest l = length l.rest
