-- The covers of cells meet the rules of covers.
use Rattle.std.proofs.Common.{Bool, true, false, refl, arith}
use Rattle.lid_cover.specs.Cover.{IsCover}
use Rattle.lid_emit_circuit.specs.Gates.{constant, buffer, negation, both, without, choice, count, move}

pub buffer_formed : IsCover buffer
buffer_formed = record { width = omega arith; cubes = (record { in_range = omega arith; within = refl }, tt) }

pub negation_formed : IsCover negation
negation_formed = record { width = omega arith; cubes = (record { in_range = omega arith; within = refl }, tt) }

pub both_formed : IsCover both
both_formed = record { width = omega arith; cubes = (record { in_range = omega arith; within = refl }, tt) }

pub without_formed : IsCover without
without_formed = record { width = omega arith; cubes = (record { in_range = omega arith; within = refl }, tt) }

pub choice_formed : IsCover choice
choice_formed = record { width = omega arith; cubes = (record { in_range = omega arith; within = refl }, (record { in_range = omega arith; within = refl }, tt)) }

pub count_formed : IsCover count
count_formed = record { width = omega arith; cubes = (record { in_range = omega arith; within = refl }, (record { in_range = omega arith; within = refl }, (record { in_range = omega arith; within = refl }, (record { in_range = omega arith; within = refl }, tt)))) }

pub move_formed : IsCover move
move_formed = record { width = omega arith; cubes = (record { in_range = omega arith; within = refl }, (record { in_range = omega arith; within = refl }, (record { in_range = omega arith; within = refl }, (record { in_range = omega arith; within = refl }, tt)))) }

pub constant_formed : (bit : Bool) → IsCover (constant bit)
constant_formed true = record { width = omega arith; cubes = (record { in_range = omega arith; within = refl }, tt) }
constant_formed false = record { width = omega arith; cubes = tt }
