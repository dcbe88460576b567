-- What a cover is worth at given inputs, after the Berkeley Logic Interchange Format.
use Rattle.std.specs.Prelude.{◌≡◌, ◌≤◌, ◌<◌, ◌^◌, ◌/◌, ◌%◌, ℕ, ◌==◌, Bool, true, false, not, ◌&&◌, ◌||◌, bit_and, List, [], ◌∷◌}
use Rattle.std.specs.List.{list_any, AllByRecursion}
use Rattle.lid_cover.specs.declared.Cover.{Cover}
use Rattle.lid_cover.specs.declared.Cube.{Cube}

-- whether two bits are equal
abbrev pub same_bit : Bool → Bool → Bool
same_bit true bit = bit
same_bit false bit = not bit

-- whether bit 0 of a number is 1
abbrev pub lowest_bit : ℕ → Bool
lowest_bit n = n % 2 == 1

-- whether the bits are equal to those of `value` at every place that is in `care`; bit 0 belongs to the first
abbrev pub fits : ℕ → ℕ → List Bool → Bool
fits care value [] = true
fits care value (bit ∷ bits) = (not (lowest_bit care) || same_bit (lowest_bit value) bit) && fits (care / 2) (value / 2) bits

-- a cube agrees with the inputs when they are equal at every place that it cares for
abbrev pub agrees : List Bool → Cube → Bool
agrees bits cube = fits cube.care cube.value bits

-- the value of a cover: `on` exactly where some cube agrees with the inputs
unfoldable pub cover_value : Cover → List Bool → Bool
cover_value cover bits = same_bit cover.on (list_any (agrees bits) cover.cubes)

-- a cube of so many inputs looks at no other bits, and asks nothing of bits that it does not look at
pub record IsCube (inputs : ℕ) (cube : Cube) : Type 0 where
  pub in_range : cube.care < 2 ^ inputs
  pub within : bit_and cube.value cube.care ≡ cube.value

-- the rules that each cover meets
pub record IsCover (cover : Cover) : Type 0 where
  pub width : cover.inputs ≤ 64
  pub cubes : AllByRecursion (IsCube cover.inputs) cover.cubes
