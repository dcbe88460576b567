use Rattle.std.proofs.Common.{◌≡◌, ◌++◌, take}
use Rattle.lid_base_lines.specs.Texts.{lines_text}
use Rattle.lid_blifout.specs.Canonical.{models_lines}
use Rattle.lid_base.specs.Lists.{Keeps}
use Rattle.lid_blifout.proofs.writer.append_each.Given as goal

abbrev pub invariant-loop-model : goal.invariant-loop-model
invariant-loop-model l = record {
  done : l.into.items ≡ l.fn.into.items ++ lines_text (models_lines (take l.model-index l.models));
  kept : Keeps l.fn.into.items l.into.items;
}
