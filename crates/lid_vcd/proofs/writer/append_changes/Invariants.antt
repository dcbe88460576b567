use Rattle.std.proofs.Common.{◌≡◌, ◌+◌, ◌*◌, ◌++◌, ◌≤◌, length}
use Rattle.lid_base.specs.Lists.{Keeps}
use Rattle.lid_base_lines.specs.Texts.{lines_text}
use Rattle.lid_vcd_form.specs.Text.{changes}
use Rattle.lid_vcd.proofs.writer.append_changes.Given as goal

abbrev pub invariant-loop-rest : goal.invariant-loop-rest
invariant-loop-rest l = record {
  done : l.into.items ++ lines_text (changes l.n l.before l.rest) ≡ l.fn.into.items ++ lines_text (changes 0 l.olds l.news);
  kept : Keeps l.fn.into.items l.into.items;
  few : l.n + 3 * length l.rest ≤ 196608;
}

abbrev pub decreases-loop-rest : goal.decreases-loop-rest
decreases-loop-rest l = length l.rest
