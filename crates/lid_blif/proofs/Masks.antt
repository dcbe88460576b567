-- How large a mask of so many bits is.
use Rattle.std.proofs.Common.{ℕ, ◌^◌, ◌<◌, ◌≤◌, Bool, true, false, List, [], ◌∷◌, length, map, drop, arith, length-drop, lit<}
use Rattle.std.specs.Int.{from_bool}
use Rattle.std.proofs.lemmas.List.{length-map}
use Rattle.std.proofs.Math.Nat.{pow-succ'}
use Rattle.std.proofs.Math.Pow.{pow_mono}
use Rattle.lid_blif.specs.Designs.{mask_of}

pub mask_below : (bits : List Bool) → mask_of bits < 2 ^ length bits
mask_below [] = lit< tt
mask_below (true ∷ bits) = omega (arith, mask_below bits, pow-succ' 2 (length bits))
mask_below (false ∷ bits) = omega (arith, mask_below bits, pow-succ' 2 (length bits))

-- of at most 64 characters, without the first there is room for one more bit
pub mask_room : (p : ℕ → Bool) (characters : List ℕ) (at : ℕ) → length characters ≤ 64 → 0 < at → mask_of (map p (drop at characters)) < 9223372036854775808
mask_room p characters at short some =
    let bits = map p (drop at characters) in
    let few : length bits ≤ 63 = simp (length-map, length-drop) (omega arith) in
    let most : 2 ^ length bits ≤ 2 ^ 63 = pow_mono few in
    omega (arith, mask_below bits)

pub from_bool_le : (b : Bool) → from_bool b ≤ 1
from_bool_le true = omega arith
from_bool_le false = omega arith
