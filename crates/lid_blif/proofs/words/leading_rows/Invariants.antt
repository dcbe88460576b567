use Rattle.std.proofs.Common.{◌≡◌, ◌++◌, take, drop}
use Rattle.lid_blif.specs.declared.keyword.Keyword.TheVariants.{Row}
use Rattle.lid_blif.specs.Words.{leading, is_line}
use Rattle.lid_blif.proofs.words.leading_rows.Given as goal

abbrev pub invariant-loop-at : goal.invariant-loop-at
invariant-loop-at l = take l.at l.lines ++ leading (is_line Row) (drop l.at l.lines) ≡ leading (is_line Row) l.lines
