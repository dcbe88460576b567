use Rattle.std.proofs.Common.{◌≡◌, ◌+◌, ◌++◌}
use Rattle.lid_base.specs.Lists.{Keeps}
use Rattle.lid_base_lines.specs.Texts.{lines_text}
use Rattle.lid_vcd_form.specs.Text.{declarations}
use Rattle.lid_vcd.proofs.writer.append_declarations.Given as goal

abbrev pub invariant-loop-left : goal.invariant-loop-left
invariant-loop-left l = record {
  done : l.into.items ++ lines_text (declarations l.n l.left) ≡ l.fn.into.items ++ lines_text (declarations 0 l.variables);
  kept : Keeps l.fn.into.items l.into.items;
  sum : l.n + l.left ≡ l.variables;
}

abbrev pub decreases-loop-left : goal.decreases-loop-left
decreases-loop-left l = l.left
