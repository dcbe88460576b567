use Rattle.std.proofs.Common.{◌≡◌, ◌+◌, ◌++◌, length}
use Rattle.lid_base_lines.specs.Texts.{lines_text}
use Rattle.lid_rate_text.specs.Throughput.{parts_lines}
use Rattle.lid_rate_text.proofs.verdict.append_parts.Given as goal

abbrev pub invariant-loop-rest : goal.invariant-loop-rest
invariant-loop-rest l = record {
  done : l.into.items ++ lines_text (parts_lines l.number l.rest) ≡ l.fn.into.items ++ lines_text (parts_lines 0 l.parts);
  long : l.number + length l.rest ≡ length l.parts;
}

abbrev pub decreases-loop-rest : goal.decreases-loop-rest
decreases-loop-rest l = length l.rest
