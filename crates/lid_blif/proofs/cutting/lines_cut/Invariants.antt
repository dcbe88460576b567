use Rattle.std.proofs.Common.{◌≡◌, ◌+◌, ◌≤◌, ◌++◌, length, drop}
use Rattle.lid_blif.specs.Joins.{lines_cut, words_counted}
use Rattle.lid_blif.proofs.cutting.lines_cut.Given as goal

abbrev pub invariant-loop-size : goal.invariant-loop-size
invariant-loop-size l = record {
  lines : l.lines.items ++ lines_cut (drop l.size-index l.sizes) (drop l.start l.words) ≡ lines_cut l.sizes l.words;
  counted : l.start + words_counted (drop l.size-index l.sizes) ≤ length l.words;
}
