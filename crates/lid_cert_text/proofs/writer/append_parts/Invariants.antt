use Rattle.std.proofs.Common.{◌≡◌, ◌++◌, take}
use Rattle.lid_base.specs.Lists.{Keeps}
use Rattle.lid_base_lines.specs.Texts.{lines_text}
use Rattle.lid_cert_text.specs.Written.{parts_lines}
use Rattle.lid_cert_text.proofs.writer.append_parts.Given as goal

abbrev pub invariant-loop-part : goal.invariant-loop-part
invariant-loop-part l = record {
  done : l.into.items ≡ l.fn.into.items ++ lines_text (parts_lines (take l.part-index l.parts));
  kept : Keeps l.fn.into.items l.into.items;
}
