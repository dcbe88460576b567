use Rattle.std.proofs.Common.{◌≡◌}
use Rattle.lid_base.specs.Each.{from_each}
use Rattle.lid_gen.specs.Designs.{numbered}
use Rattle.lid_gen.proofs.names.numbered_names.Given as goal

abbrev pub invariant-loop-digit : goal.invariant-loop-digit
invariant-loop-digit l = l.names.items ≡ from_each (numbered l.word) 0 l.digit
