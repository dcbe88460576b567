-- The values of the covers of a wrapped system.
use Rattle.std.proofs.Common.{◌≡◌, Bool, true, false, not, ◌&&◌, [], ◌∷◌, refl}
use Rattle.std.specs.Prelude.{if◌then◌else◌}
use Rattle.lid_cover.specs.Cover.{cover_value}
use Rattle.lid_emit_circuit.specs.Gates.{constant, buffer, negation, both, without, choice, count, count_value, move, move_value}

pub constant_is : (bit : Bool) → cover_value (constant bit) [] ≡ bit
unfolding cover_value
constant_is true = refl
constant_is false = refl

pub buffer_is : (x : Bool) → cover_value buffer (x ∷ []) ≡ x
unfolding cover_value
buffer_is true = refl
buffer_is false = refl

pub negation_is : (x : Bool) → cover_value negation (x ∷ []) ≡ not x
unfolding cover_value
negation_is true = refl
negation_is false = refl

pub both_is : (x y : Bool) → cover_value both (x ∷ y ∷ []) ≡ x && y
unfolding cover_value
both_is true true = refl
both_is true false = refl
both_is false true = refl
both_is false false = refl

pub without_is : (x y : Bool) → cover_value without (x ∷ y ∷ []) ≡ x && not y
unfolding cover_value
without_is true true = refl
without_is true false = refl
without_is false true = refl
without_is false false = refl

pub choice_is : (x y z : Bool) → cover_value choice (x ∷ y ∷ z ∷ []) ≡ (if x then y else z)
unfolding cover_value
choice_is true true true = refl
choice_is true true false = refl
choice_is true false true = refl
choice_is true false false = refl
choice_is false true true = refl
choice_is false true false = refl
choice_is false false true = refl
choice_is false false false = refl

pub count_is : (drained filled less same more : Bool) → cover_value count (drained ∷ filled ∷ less ∷ same ∷ more ∷ []) ≡ count_value drained filled less same more
unfolding cover_value
count_is true true true true true = refl
count_is true true true true false = refl
count_is true true true false true = refl
count_is true true true false false = refl
count_is true true false true true = refl
count_is true true false true false = refl
count_is true true false false true = refl
count_is true true false false false = refl
count_is true false true true true = refl
count_is true false true true false = refl
count_is true false true false true = refl
count_is true false true false false = refl
count_is true false false true true = refl
count_is true false false true false = refl
count_is true false false false true = refl
count_is true false false false false = refl
count_is false true true true true = refl
count_is false true true true false = refl
count_is false true true false true = refl
count_is false true true false false = refl
count_is false true false true true = refl
count_is false true false true false = refl
count_is false true false false true = refl
count_is false true false false false = refl
count_is false false true true true = refl
count_is false false true true false = refl
count_is false false true false true = refl
count_is false false true false false = refl
count_is false false false true true = refl
count_is false false false true false = refl
count_is false false false false true = refl
count_is false false false false false = refl

pub move_is : (drained held here more next put : Bool) → cover_value move (drained ∷ held ∷ here ∷ more ∷ next ∷ put ∷ []) ≡ move_value drained held here more next put
unfolding cover_value
move_is true true true true true true = refl
move_is true true true true true false = refl
move_is true true true true false true = refl
move_is true true true true false false = refl
move_is true true true false true true = refl
move_is true true true false true false = refl
move_is true true true false false true = refl
move_is true true true false false false = refl
move_is true true false true true true = refl
move_is true true false true true false = refl
move_is true true false true false true = refl
move_is true true false true false false = refl
move_is true true false false true true = refl
move_is true true false false true false = refl
move_is true true false false false true = refl
move_is true true false false false false = refl
move_is true false true true true true = refl
move_is true false true true true false = refl
move_is true false true true false true = refl
move_is true false true true false false = refl
move_is true false true false true true = refl
move_is true false true false true false = refl
move_is true false true false false true = refl
move_is true false true false false false = refl
move_is true false false true true true = refl
move_is true false false true true false = refl
move_is true false false true false true = refl
move_is true false false true false false = refl
move_is true false false false true true = refl
move_is true false false false true false = refl
move_is true false false false false true = refl
move_is true false false false false false = refl
move_is false true true true true true = refl
move_is false true true true true false = refl
move_is false true true true false true = refl
move_is false true true true false false = refl
move_is false true true false true true = refl
move_is false true true false true false = refl
move_is false true true false false true = refl
move_is false true true false false false = refl
move_is false true false true true true = refl
move_is false true false true true false = refl
move_is false true false true false true = refl
move_is false true false true false false = refl
move_is false true false false true true = refl
move_is false true false false true false = refl
move_is false true false false false true = refl
move_is false true false false false false = refl
move_is false false true true true true = refl
move_is false false true true true false = refl
move_is false false true true false true = refl
move_is false false true true false false = refl
move_is false false true false true true = refl
move_is false false true false true false = refl
move_is false false true false false true = refl
move_is false false true false false false = refl
move_is false false false true true true = refl
move_is false false false true true false = refl
move_is false false false true false true = refl
move_is false false false true false false = refl
move_is false false false false true true = refl
move_is false false false false true false = refl
move_is false false false false false true = refl
move_is false false false false false false = refl
