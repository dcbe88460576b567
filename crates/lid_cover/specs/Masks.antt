-- How `eval` works: the inputs of a cover as one number.
use Rattle.std.specs.Prelude.{ℕ, ◌+◌, ◌*◌, ◌==◌, Bool, if◌then◌else◌, bit_and, bit_xor, List, [], ◌∷◌}
use Rattle.lid_cover.specs.declared.Cube.{Cube}

-- bit j of the number is that of input j
abbrev pub packed : List Bool → ℕ
packed [] = 0
packed (bit ∷ bits) = (if bit then 1 else 0) + 2 * packed bits

-- whether a cube agrees with packed inputs
abbrev pub is_met : ℕ → Cube → Bool
is_met bits cube = bit_and (bit_xor bits cube.value) cube.care == 0
