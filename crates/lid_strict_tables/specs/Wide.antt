-- Truth tables of covers of seven to twelve inputs: words of 64 bits, one after the other.
use Rattle.std.specs.Prelude.{◌≡◌, ◌≤◌, ◌<◌, ◌+◌, ◌-◌, ◌*◌, ◌/◌, ◌%◌, ◌^◌, ◌==◌, ◌&&◌, ℕ, Bool, List, length, get_or, bit_and, bit_xor}
use Rattle.lid_base.specs.Each.{from_each}
use Rattle.lid_cover.specs.declared.Cover.{Cover}
use Rattle.lid_cover.specs.declared.Cube.{Cube}
use Rattle.lid_cover.specs.Cover.{agrees}
use Rattle.lid_cover.specs.Masks.{packed}
use Rattle.lid_strict_engine.specs.declared.program.ProgramStep.{ProgramStep}
use Rattle.lid_strict_engine.specs.Truth.{is_set, unpacked, value_at}
use Rattle.lid_strict_engine.specs.Programs.{step_cover}

-- bit i mod 64 of word i / 64 from a place on is the value of the cover at i
pub record IsWideTable (words : List ℕ) (first : ℕ) (cover : Cover) : Type 0 where
  pub room : first + 2 ^ (cover.inputs - 6) ≤ length words
  pub bits : (i : ℕ) → i < 2 ^ cover.inputs → is_set (get_or words (first + i / 64) 0) (i % 64) ≡ value_at cover i

-- a step has such a table where it reads seven to twelve nets, and has a row for each two words
pub record IsTabled (step : ProgramStep) : Type 0 where
  pub many : 7 ≤ step.width
  pub few : step.width ≤ 12
  pub rows : 2 ^ (step.width - 7) ≤ step.cubes.end - step.cubes.start

-- what is kept for a step: its truth table where it reads few nets, and the place of the first word where it has a table of words
pub record IsTableOf (words : List ℕ) (cubes : List Cube) (step : ProgramStep) (table : ℕ) : Type 0 where
  pub small : step.width ≤ 6 → table ≡ step.table
  pub wide : IsTabled step → IsWideTable words table (step_cover cubes step)

-- bit i tells whether a row agrees where the first six inputs are the bits of i
unfoldable pub low_mask : Cube → ℕ
low_mask cube = packed (from_each (λ i. agrees (unpacked 6 i) cube) 0 64)

-- whether a row agrees where the first six inputs are the lowest bits of i, and those after them the bits of another number
abbrev pub agrees_at : ℕ → ℕ → Cube → Bool
agrees_at high i cube = agrees (unpacked 6 i) cube && (bit_and (bit_xor high (cube.value / 64)) (cube.care / 64) == 0)

-- the values of a cover at 64 numbers from 64 times one on
unfoldable pub word_of : Cover → ℕ → ℕ
word_of cover high = packed (from_each (value_at cover) (64 * high) 64)
