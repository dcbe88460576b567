use Rattle.std.proofs.Common.{◌≡◌, ◌++◌, map, take}
use Rattle.std.specs.Fmt.{decimal}
use Rattle.lid_base_lines.specs.Texts.{spaced}
use Rattle.lid_base.specs.Lists.{Keeps}
use Rattle.lid_base_lines.proofs.writer.append_small_numbers.Given as goal

abbrev pub invariant-loop-number : goal.invariant-loop-number
invariant-loop-number l = record {
  done : l.into.items ≡ l.fn.into.items ++ spaced (map decimal (take l.number-index l.numbers));
  kept : Keeps l.fn.into.items l.into.items;
}
