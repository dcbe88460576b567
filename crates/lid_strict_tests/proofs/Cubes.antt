-- Cubes made of any numbers.
use Rattle.std.proofs.Common.{◌≡◌, ℕ, ◌*◌, ◌%◌, ◌^◌, ◌<◌, ◌≤◌, bit_and, sym, ◌∙◌, ap, subst, arith}
use Rattle.std.specs.Int.Bits.{and_self}
use Rattle.std.proofs.Math.Nat.{mod-lt}
use Rattle.std.proofs.Math.Pow.{pow_mono}
use Rattle.std.proofs.lemmas.Nat.{and_assoc, pow_pos}
use Rattle.lid_cover.specs.declared.Cube.{Cube}
use Rattle.lid_cover.specs.Cover.{IsCube}

pub cube_is : (inputs x y : ℕ) (cube : Cube) → inputs ≤ 13 → cube.care ≡ x % (1 * 2 ^ inputs % 18446744073709551616) → cube.value ≡ bit_and y cube.care → IsCube inputs cube
cube_is inputs x y cube few care value =
    let most : 2 ^ inputs ≤ 2 ^ 13 = pow_mono few in
    let some : 0 < 2 ^ inputs = pow_pos inputs in
    let same : 1 * 2 ^ inputs % 18446744073709551616 ≡ 2 ^ inputs = omega arith in
    record {
      in_range = subst (λ (n : ℕ). n < 2 ^ inputs) (sym (care ∙ ap (λ (n : ℕ). x % n) same)) (mod-lt x some);
      within = ap (λ (n : ℕ). bit_and n cube.care) value ∙ and_assoc cube.care y cube.care ∙ ap (bit_and y) (and_self cube.care) ∙ sym value;
    }
