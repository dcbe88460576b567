-- What drives the nets of a model, by the places of nets, and what that is in a scope of the elaboration.
use denote.Ref.{Bor}
use Rattle.std.specs.Prelude.{ℕ, ◌+◌, ◌<◌, ◌≤◌, ⊤, List, [], length, map, Option, Some, None, slice_get, slice_index}
use Rattle.std.specs.Option.{option_map_or}
use Rattle.std.specs.List.{All, position_or_len}
use Rattle.std.specs.Str.{bytes_eq}
use Rattle.lid_design.specs.declared.Design.{Design}
use Rattle.lid_design.specs.Network.{Driver, from_input, from_connection}
use Rattle.lid_design.specs.Models.{instance_number}
use Rattle.lid_design.specs.Elaboration.{model_nets}
use Rattle.lid_check_table.specs.Tables.{names_in}
use Rattle.lid_check_drivers.specs.Locals.{Local, resolved, local_input, local_latch, local_cover, local_connection}
use Rattle.lid_check_elab.specs.Covers.{cover_in}
use Rattle.lid_check_elab.specs.declared.template.LocalDriver.{LocalDriver}
use Rattle.lid_check_elab.specs.declared.template.LocalDriver.TheVariants.{Input, Latch, Cover as OfCover, Connection}

-- what a driver in a model stands for
abbrev pub shown_local : Design → LocalDriver → Local ℕ
shown_local d (Input place) = local_input place
shown_local d (Latch first input) = local_latch first input
shown_local d (OfCover model cell inputs) = local_cover (cover_in d model cell) inputs
shown_local d (Connection inst net) = local_connection inst net

-- the names of a model, by its number
abbrev pub model_names : Design → ℕ → List (List ℕ)
model_names d k = option_map_or names_in (slice_get d.models k) []

-- the name to which a number leads in a model
abbrev pub name_at : Design → ℕ → ℕ → Option (List ℕ)
name_at d k number = slice_get (model_names d k) number

-- the place of a net among those of a model
abbrev pub net_place : Design → ℕ → List ℕ → ℕ
net_place d k name = position_or_len (bytes_eq name) (model_nets d k)

-- names of nets, by their places
abbrev pub net_by_place : Design → ℕ → Local (List ℕ) → Local ℕ
net_by_place d k (local_input j) = local_input j
net_by_place d k (local_latch first input) = local_latch first (net_place d k input)
net_by_place d k (local_cover cover inputs) = local_cover cover (map (net_place d k) inputs)
net_by_place d k (local_connection i formal) = local_connection i (option_map_or (λ j. net_place d j formal) (instance_number d i k) 0)

-- an input is given at the root. In an instance, the scope around starts at a number and binds inputs to
-- its nets
abbrev pub input_from : Option (ℕ × List ℕ) → ℕ → Driver ℕ
input_from None j = from_input j
input_from (Some around) j = from_connection (around.0 + slice_index around.1 j)

-- what it is in a scope whose columns start at a number, where the offsets are those of the instances of
-- its model
abbrev pub placed_driver : ℕ → List ℕ → Option (ℕ × List ℕ) → Local ℕ → Driver ℕ
placed_driver start offsets around = resolved (input_from around) (λ net. start + net) (λ i net. start + (slice_index offsets i + net))

-- the scope around, behind a reference
abbrev pub seen_around : Option (ℕ × Bor (List ℕ)) → Option (ℕ × List ℕ)
seen_around None = None
seen_around (Some around) = Some (around.0, around.1.now)

-- all numbers are there, and small
abbrev pub IsSmallLocal : List ℕ → Option (ℕ × List ℕ) → Local ℕ → Type 0
IsSmallLocal offsets None (local_input j) = ⊤
IsSmallLocal offsets (Some around) (local_input j) = (around.0 ≤ 1048576) × (j < length around.1) × (slice_index around.1 j ≤ 1048576)
IsSmallLocal offsets around (local_latch first input) = input ≤ 1048576
IsSmallLocal offsets around (local_cover cover inputs) = All (λ net. net ≤ 1048576) inputs
IsSmallLocal offsets around (local_connection i net) = (i < length offsets) × (slice_index offsets i ≤ 1048576) × (net ≤ 1048576)
