-- The ports of the nodes of a design. This is said of the design alone.
use Rattle.std.specs.Prelude.{◌≡◌, ℕ, zero, suc, List, [], map, slice_get, Some, ◌⊎◌, true, ◌∷◌}
use Rattle.std.specs.Option.{option_map_or}
use Rattle.lid_design.specs.declared.Design.{Design}
use Rattle.lid_design.specs.Columns.{Column, column, model_at, root_inputs, drivers}
use Rattle.lid_design.specs.Loops.{pearls}
use Rattle.lid_base.specs.Lists.{Among}
use Rattle.lid_cover.specs.declared.Cover.{Cover}
use Rattle.lid_design.specs.Network.{Driver, from_cover, from_connection}
use Rattle.lid_check_rules.specs.Buffers.{passes_on}

-- the columns of the outputs of the model at a path
abbrev pub outputs_at : Design → List ℕ → List Column
outputs_at d path = option_map_or (λ m. map (column path) m.outputs) (model_at d path) []

-- the ports of a node: those of the source, node 0, are the root's data inputs, and those of a shell its
-- model's outputs, where node i is the shell of pearl i - 1
unfoldable pub ports_of : Design → ℕ → List Column
ports_of d zero = map (column []) (root_inputs d)
ports_of d (suc i) = option_map_or (outputs_at d) (slice_get (pearls d) i) []

-- a column is the port of a node at a place
abbrev pub IsPort : Design → Column → ℕ → ℕ → Type 0
IsPort d c node place = slice_get (ports_of d node) place ≡ Some c

-- a column is no port of any node
abbrev pub IsNoPort : Design → Column → Type 0
IsNoPort d c = (node place : ℕ) → ¬ IsPort d c node place

-- a column has the bit of another in each row: by a binding, or by a buffer
abbrev pub IsPassedOn : Design → Column → Column → Type 0
IsPassedOn d a c =
    Among {A = Driver Column} (from_connection a) (drivers d c)
    ⊎ ((cover : Cover) × (passes_on cover ≡ true) × Among {A = Driver Column} (from_cover cover (a ∷ [])) (drivers d c))
