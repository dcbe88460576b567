-- Registers: parts with some inputs, one latch, and one cover that the latch takes.
use Rattle.std.specs.Prelude.{ℕ, zero, suc, ◌+◌, Bool, List, [], ◌∷◌}
use Rattle.lid_cover.specs.declared.Cover.{Cover}
use Rattle.lid_cover.specs.declared.Cube.{Cube}
use Rattle.lid_design.specs.declared.Flat.{Flat}

-- so many numbers from k on
abbrev pub nets_from : ℕ → ℕ → List ℕ
nets_from k zero = []
nets_from k (suc n) = k ∷ nets_from (k + 1) n

abbrev pub cover_with : ℕ → Bool → List Cube → Cover
cover_with inputs on cubes = record { inputs = inputs; on = on; cubes = cubes }

-- the inputs are the nets below n, the latch gives net n, and the cover net n + 1
abbrev pub register : ℕ → Bool → List ℕ → Cover → List ℕ → Flat
register n init reads cover outs = record {
  nets = n + 2;
  ins = nets_from 0 n;
  outs = outs;
  latches = record { input = n + 1; out = n; init = init } ∷ [];
  covers = record { ins = reads; out = n + 1; cover = cover } ∷ [];
}
