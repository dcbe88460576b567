use Rattle.std.proofs.Common.{◌≡◌, map, take}
use Rattle.lid_strict.specs.Stems.{stem_at}
use Rattle.lid_strict.proofs.stems.write_stems.Given as goal

abbrev pub invariant-loop-number : goal.invariant-loop-number
invariant-loop-number l = l.into.items ≡ map (stem_at l.stems) (take l.number-index l.numbers)
