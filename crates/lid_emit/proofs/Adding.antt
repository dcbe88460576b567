-- Sums that are cut at the greatest number that is counted.
use Rattle.std.proofs.Common.{◌≡◌, ℕ, ◌+◌, List, [], ◌∷◌, min, sum_by, Option, Some, None, refl, arith}
use Rattle.std.specs.Option.{option_map_or}
use Rattle.std.proofs.lemmas.List.Sums.{sum_by-cons}

-- a cut sum of cut numbers is the cut sum
pub cut_sum : (a b sum x y z : ℕ) → a ≡ min x 18446744073709551615 → b ≡ min y 18446744073709551615 → sum ≡ min (a + b) 18446744073709551615 → z ≡ x + y → sum ≡ min z 18446744073709551615
cut_sum a b sum x y z is_a is_b is_sum is_z = omega arith

-- a sum of numbers of four parts each
pub four_parts : {X : Type 0} (f a b c d : X → ℕ) → ((x : X) → f x ≡ a x + b x + c x + d x) → (xs : List X) → sum_by f xs ≡ sum_by a xs + sum_by b xs + sum_by c xs + sum_by d xs
four_parts f a b c d parts [] = refl
four_parts f a b c d parts (x ∷ xs) =
    let first = parts x in
    let later = four_parts f a b c d parts xs in
    omega (arith, sum_by-cons f x xs, sum_by-cons a x xs, sum_by-cons b x xs, sum_by-cons c x xs, sum_by-cons d x xs)

-- or a number of four parts, where there is one
pub maybe_parts : {X : Type 0} (f a b c d : X → ℕ) → ((x : X) → f x ≡ a x + b x + c x + d x) → (o : Option X) → option_map_or f o 0 ≡ option_map_or a o 0 + option_map_or b o 0 + option_map_or c o 0 + option_map_or d o 0
maybe_parts f a b c d parts None = refl
maybe_parts f a b c d parts (Some x) = parts x
