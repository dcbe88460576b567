use Rattle.std.proofs.Common.{◌≡◌, ◌++◌, take}
use Rattle.lid_base_lines.specs.Texts.{spaced}
use Rattle.lid_base.specs.Lists.{Keeps}
use Rattle.lid_base_lines.proofs.writer.append_words.Given as goal

abbrev pub invariant-loop-word : goal.invariant-loop-word
invariant-loop-word l = record {
  done : l.into.items ≡ l.fn.into.items ++ spaced (take l.word-index l.words);
  kept : Keeps l.fn.into.items l.into.items;
}
