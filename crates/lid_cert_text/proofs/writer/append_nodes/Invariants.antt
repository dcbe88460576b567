use Rattle.std.proofs.Common.{◌≡◌, ◌++◌}
use Rattle.lid_base.specs.Lists.{Keeps}
use Rattle.lid_base_lines.specs.Texts.{lines_text}
use Rattle.lid_cert_text.specs.Written.{node_rows}
use Rattle.lid_cert_text.proofs.writer.append_nodes.Given as goal

abbrev pub invariant-loop-i : goal.invariant-loop-i
invariant-loop-i l = record {
  done : l.into.items ≡ l.fn.into.items ++ lines_text (node_rows l.part l.i);
  kept : Keeps l.fn.into.items l.into.items;
}
