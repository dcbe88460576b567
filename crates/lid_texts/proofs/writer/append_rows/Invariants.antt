use Rattle.std.proofs.Common.{◌≡◌, ◌++◌, take}
use Rattle.std.specs.List.{flat_map}
use Rattle.lid_base.specs.Lists.{Keeps}
use Rattle.lid_texts.specs.RowsText.{row_text}
use Rattle.lid_texts.proofs.writer.append_rows.Given as goal

abbrev pub invariant-loop-row : goal.invariant-loop-row
invariant-loop-row l = record {
  done : l.into.items ≡ l.fn.into.items ++ flat_map (row_text l.columns) (take l.row-index l.bits);
  kept : Keeps l.fn.into.items l.into.items;
}
