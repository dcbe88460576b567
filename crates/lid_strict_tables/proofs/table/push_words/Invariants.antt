use Rattle.std.proofs.Common.{◌≡◌, ◌++◌}
use Rattle.lid_base.specs.Each.{from_each}
use Rattle.lid_strict_engine.specs.Programs.{cover_with}
use Rattle.lid_strict_tables.specs.Wide.{word_of}
use Rattle.lid_strict_tables.proofs.table.push_words.Given as goal

abbrev pub invariant-loop-high : goal.invariant-loop-high
invariant-loop-high l = l.words.items ≡ l.fn.words.items ++ from_each (word_of (cover_with l.inputs l.on l.cubes)) 0 l.high
