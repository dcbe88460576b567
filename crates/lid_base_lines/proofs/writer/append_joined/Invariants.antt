use Rattle.std.proofs.Common.{◌≡◌, ◌++◌, length}
use Rattle.std.specs.List.{join_with_byte}
use Rattle.lid_base.specs.Lists.{Keeps}
use Rattle.lid_base_lines.proofs.writer.append_joined.Given as goal

abbrev pub invariant-loop-rest : goal.invariant-loop-rest
invariant-loop-rest l = record {
  done : l.into.items ++ join_with_byte 32 l.rest ≡ l.fn.into.items ++ join_with_byte 32 l.words;
  kept : Keeps l.fn.into.items l.into.items;
}

abbrev pub decreases-loop-rest : goal.decreases-loop-rest
decreases-loop-rest l = length l.rest
