-- Covers as they are written.
use Rattle.std.proofs.Common.{◌≡◌, ℕ, zero, suc, ◌<◌, ◌≤◌, ◌^◌, Bool, true, false, ◌||◌, List, [], ◌∷◌, refl, ap, arith, pow-suc}
use Rattle.std.specs.List.{AllByRecursion, list_any}
use Rattle.lid_cover.specs.declared.Cover.{Cover}
use Rattle.lid_cover.specs.declared.Cube.{Cube}
use Rattle.lid_cover.specs.Cover.{same_bit, fits, agrees, cover_value, IsCube, IsCover}
use Rattle.lid_emit_names.specs.Named.{with_rows, written}

-- a cube that looks at nothing agrees with all inputs
all_fit : (bits : List Bool) → fits 0 0 bits ≡ true
all_fit [] = refl
all_fit (bit ∷ bits) = all_fit bits

rows_value : (inputs : ℕ) (on : Bool) (cubes : List Cube) (bits : List Bool) → cover_value (with_rows inputs on cubes) bits ≡ same_bit on (list_any (agrees bits) cubes)
unfolding cover_value
rows_value inputs true cubes bits = refl
rows_value inputs false [] bits = ap (λ (b : Bool). same_bit true (b || false)) (all_fit bits)
rows_value inputs false (cube ∷ cubes) bits = refl

pub written_value : (cover : Cover) (bits : List Bool) → cover_value (written cover) bits ≡ cover_value cover bits
unfolding cover_value
written_value cover bits = rows_value cover.inputs cover.on cover.cubes bits

rows_formed : (inputs : ℕ) (on : Bool) (cubes : List Cube) → inputs ≤ 64 → AllByRecursion (IsCube inputs) cubes → IsCover (with_rows inputs on cubes)
rows_formed inputs true cubes width all = record { width = width; cubes = all }
rows_formed inputs false [] width all = record { width = width; cubes = (record { in_range = some inputs; within = refl }, tt) }
  where
    some : (n : ℕ) → 0 < 2 ^ n
    some zero = omega arith
    some (suc n) = omega (arith, pow-suc 2 n, some n)
rows_formed inputs false (cube ∷ cubes) width all = record { width = width; cubes = all }

pub written_formed : (cover : Cover) → IsCover cover → IsCover (written cover)
written_formed cover is = rows_formed cover.inputs cover.on cover.cubes is.width is.cubes

rows_inputs : (inputs : ℕ) (on : Bool) (cubes : List Cube) → (with_rows inputs on cubes).inputs ≡ inputs
rows_inputs inputs true cubes = refl
rows_inputs inputs false [] = refl
rows_inputs inputs false (cube ∷ cubes) = refl

pub written_inputs : (cover : Cover) → (written cover).inputs ≡ cover.inputs
written_inputs cover = rows_inputs cover.inputs cover.on cover.cubes
