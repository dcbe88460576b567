use Rattle.std.proofs.Common.{◌≡◌, ◌≤◌, length, drop}
use Rattle.std.specs.Prelude.{map}
use Rattle.lid_blif.specs.Designs.{mask_of, is_cared_for, is_character_one}
use Rattle.lid_blif.proofs.cells.cube_from.Given as goal

abbrev pub invariant-loop-at : goal.invariant-loop-at
invariant-loop-at l = record {
  bound : l.at ≤ length l.characters;
  care : l.care ≡ mask_of (map is_cared_for (drop l.at l.characters));
  value : l.value ≡ mask_of (map is_character_one (drop l.at l.characters));
}

abbrev pub decreases-loop-at : goal.decreases-loop-at
decreases-loop-at l = l.at
