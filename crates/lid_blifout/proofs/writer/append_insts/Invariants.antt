use Rattle.std.proofs.Common.{◌≡◌, ◌++◌, map, take}
use Rattle.lid_base_lines.specs.Texts.{lines_text}
use Rattle.lid_blifout.specs.Canonical.{inst_line}
use Rattle.lid_base.specs.Lists.{Keeps}
use Rattle.lid_blifout.proofs.writer.append_insts.Given as goal

abbrev pub invariant-loop-inst : goal.invariant-loop-inst
invariant-loop-inst l = record {
  done : l.into.items ≡ l.fn.into.items ++ lines_text (map inst_line (take l.inst-index l.insts));
  kept : Keeps l.fn.into.items l.into.items;
}
