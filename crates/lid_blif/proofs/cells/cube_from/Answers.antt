use Rattle.std.proofs.Common.{arith}
use Rattle.lid_blif.specs.Designs.{is_cared_for, is_character_one}
use Rattle.lid_blif.proofs.Masks.{mask_room, from_bool_le}
use Rattle.lid_blif.proofs.cells.cube_from.Goals as goal

pub overflow_mul-care : goal.overflow_mul-care
overflow_mul-care c = omega (arith, mask_room is_cared_for c.args.characters.now c.loop-at.at (omega arith) (omega arith), c.loop-at.invariant.care)

pub overflow_add-care : goal.overflow_add-care
overflow_add-care c =
    omega (arith, mask_room is_cared_for c.args.characters.now c.loop-at.at (omega arith) (omega arith), c.loop-at.invariant.care, c.from.ensures, from_bool_le)

pub overflow_mul-value : goal.overflow_mul-value
overflow_mul-value c = omega (arith, mask_room is_character_one c.args.characters.now c.loop-at.at (omega arith) (omega arith), c.loop-at.invariant.value)

pub overflow_add-value : goal.overflow_add-value
overflow_add-value c =
    omega (arith, mask_room is_character_one c.args.characters.now c.loop-at.at (omega arith) (omega arith), c.loop-at.invariant.value, c.from-in-loop-at.ensures, from_bool_le)
