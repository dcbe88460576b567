-- Pieces of lines, as they are written.
use Rattle.std.specs.Prelude.{ℕ, ◌==◌, if◌then◌else◌, List, [], ◌∷◌, ◌++◌}
use Rattle.std.specs.List.{flat_map}
use Rattle.lid_cover.specs.declared.Cube.{Cube}
use Rattle.lid_design.specs.declared.Bind.{Bind}
use Rattle.lid_blifout.specs.Canonical.{characters, bind_word}

-- bindings, each after a blank
abbrev pub spaced_binds : List Bind → List ℕ
spaced_binds binds = flat_map (λ bind. 32 ∷ bind_word bind) binds

-- what a row asks of its inputs
abbrev pub asked_text : ℕ → Cube → List ℕ
asked_text inputs cube = if inputs == 0 then [] else characters inputs cube.care cube.value ++ 32 ∷ []
