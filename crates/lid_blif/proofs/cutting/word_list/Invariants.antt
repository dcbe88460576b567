use Rattle.std.proofs.Common.{◌≡◌, ◌+◌, ◌≤◌, length}
use Rattle.std.specs.Option.{option_copied}
use Rattle.std.specs.List.{enumerate_from}
use Rattle.lid_base.specs.Cuts.{lines_left}
use Rattle.lid_base.specs.Lines.{logical_lines, first_fault, text_fault}
use Rattle.lid_blif.specs.Joins.{all_lines, OpensBehind}
use Rattle.lid_blif.proofs.Cuts.{IsTextLeft, work_left}
use Rattle.lid_blif.proofs.cutting.word_list.Given as goal

abbrev pub invariant-loop-left : goal.invariant-loop-left
invariant-loop-left l = record {
  lines : all_lines l.joined (enumerate_from l.number (lines_left (option_copied l.left))) ≡ logical_lines l.bytes;
  joined : OpensBehind l.joined;
  text : l.joined.text.now ≡ l.bytes;
  fault : first_fault l.longest (enumerate_from l.number (lines_left (option_copied l.left))) ≡ text_fault l.longest l.bytes;
  low : l.number + work_left (option_copied l.left) ≤ length l.bytes + 2;
  place : IsTextLeft l.joined.text.now l.from (option_copied l.left);
  few : length l.joined.words.items ≤ l.from;
  short : l.from ≤ length l.bytes + 1;
}

abbrev pub decreases-loop-left : goal.decreases-loop-left
decreases-loop-left l = work_left (option_copied l.left)
