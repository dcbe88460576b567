use Rattle.std.proofs.Common.{◌≡◌, ◌||◌, drop}
use Rattle.std.specs.List.{list_any}
use Rattle.lid_cover.specs.Masks.{is_met}
use Rattle.lid_strict_widths.proofs.rows.any_met.Given as goal

abbrev pub invariant-loop-cube : goal.invariant-loop-cube
invariant-loop-cube l = (l.found || list_any (is_met l.bits) (drop l.cube-index l.cubes)) ≡ list_any (is_met l.bits) l.cubes
