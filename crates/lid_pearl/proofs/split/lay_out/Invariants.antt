use Rattle.std.proofs.Common.{◌≡◌, filter, take}
use Rattle.lid_strict_engine.specs.Programs.{program_covers, IsProgram}
use Rattle.lid_strict_engine.specs.Rows.{bit_at}
use Rattle.lid_pearl.specs.Inside.{is_picked}
use Rattle.lid_pearl.proofs.split.lay_out.Given as goal

abbrev pub invariant-loop-i : goal.invariant-loop-i
invariant-loop-i l =
    IsProgram l.program
    × (l.program.nets ≡ l.flat.nets)
    × (program_covers l.program ≡ filter (is_picked (bit_at l.marks) l.wanted) (take l.i l.flat.covers))
