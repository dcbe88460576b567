use Rattle.std.proofs.Common.{◌≡◌, map, take}
use Rattle.lid_base.specs.Numbers.{value_below}
use Rattle.lid_cert_text.proofs.building.small_numbers.Given as goal

abbrev pub invariant-loop-word : goal.invariant-loop-word
invariant-loop-word l = l.numbers.items ≡ map (value_below 4294967296) (take l.word-index l.words)
