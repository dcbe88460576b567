use Rattle.std.proofs.Common.{◌≡◌, length, map, take}
use Rattle.lid_design.specs.Flat.{latch_out, latch_init}
use Rattle.lid_check_elab.specs.Covers.{no_cover}
use Rattle.lid_strict_engine.specs.Programs.{program_covers, IsProgram}
use Rattle.lid_strict.specs.Stems.{latch_stem, unbuffered_driver}
use Rattle.lid_strict.specs.Layouts.{nets_in, places_in, latches_in, covers_in}
use Rattle.lid_strict.proofs.layout.lay_out.Given as goal

abbrev pub invariant-loop-number : goal.invariant-loop-number
invariant-loop-number l =
    (l.scratch.none ≡ no_cover)
    × IsProgram l.layout.program
    × (l.layout.program.nets ≡ length l.drivers)
    × (program_covers l.layout.program ≡ covers_in (map (unbuffered_driver l.design) l.drivers) l.stems (take l.number-index l.order))
    × (l.layout.ins.items ≡ nets_in (map (unbuffered_driver l.design) l.drivers) (take l.number-index l.order))
    × (l.layout.places.items ≡ places_in (map (unbuffered_driver l.design) l.drivers) (take l.number-index l.order))
    × (l.layout.held.items ≡ map latch_out (latches_in (map (unbuffered_driver l.design) l.drivers) (take l.number-index l.order)))
    × (l.layout.taken.items ≡ map (latch_stem l.stems) (latches_in (map (unbuffered_driver l.design) l.drivers) (take l.number-index l.order)))
    × (l.layout.first.items ≡ map latch_init (latches_in (map (unbuffered_driver l.design) l.drivers) (take l.number-index l.order)))
