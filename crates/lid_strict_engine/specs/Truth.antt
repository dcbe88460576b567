-- Truth tables: one number for all values of a cover.
use Rattle.std.specs.Prelude.{◌≡◌, ◌<◌, ◌^◌, ◌/◌, ℕ, zero, suc, Bool, List, [], ◌∷◌}
use Rattle.lid_base.specs.Each.{from_each}
use Rattle.lid_cover.specs.declared.Cover.{Cover}
use Rattle.lid_cover.specs.Cover.{cover_value, lowest_bit}
use Rattle.lid_cover.specs.Masks.{packed}

-- bit i of a number
abbrev pub is_set : ℕ → ℕ → Bool
is_set table i = lowest_bit (table / 2 ^ i)

-- so many of the lowest bits of a number, bit 0 first
abbrev pub unpacked : ℕ → ℕ → List Bool
unpacked zero i = []
unpacked (suc n) i = lowest_bit i ∷ unpacked n (i / 2)

-- bit i of the number is the value of the cover at the inputs that the lowest bits of i are
abbrev pub IsTruthTable : ℕ → Cover → Type 0
IsTruthTable table cover = (i : ℕ) → i < 64 → is_set table i ≡ cover_value cover (unpacked cover.inputs i)

-- the value of a cover at the lowest bits of a number
abbrev pub value_at : Cover → ℕ → Bool
value_at cover i = cover_value cover (unpacked cover.inputs i)

-- bit i of the number is the value of the cover at i, for each i below 2^e; it has no other bits
abbrev pub HasValues : Cover → ℕ → ℕ → Type 0
HasValues cover e table = table ≡ packed (from_each (value_at cover) 0 (2 ^ e))
