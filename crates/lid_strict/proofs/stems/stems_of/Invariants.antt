use Rattle.std.proofs.Common.{◌≡◌, length, map, take}
use Rattle.lid_strict.specs.Stems.{unbuffered_driver, AreStems}
use Rattle.lid_strict.proofs.stems.stems_of.Given as goal

abbrev pub invariant-loop-number : goal.invariant-loop-number
invariant-loop-number l =
    (length l.stems.items ≡ length l.drivers)
    × AreStems (map (unbuffered_driver l.design) l.drivers) (take l.number-index l.order) l.stems.items
