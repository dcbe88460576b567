-- For the reader: which line names each channel, and what that line says of it.
use Rattle.std.specs.Prelude.{◌≡◌, ℕ, ◌+◌, ◌<◌, ◌≤◌, true, List, [], ◌∷◌, length, map, flat_map, Option, Some, None, slice_index_or}
use Rattle.std.specs.List.{All}
use Rattle.lid_base.specs.declared.line.Line.{Line}
use Rattle.lid_stations.specs.declared.placement.Placement.{Placement}
use Rattle.lid_stations.specs.Placements.{Links}
use Rattle.lid_stations_text.specs.declared.form.Form.{Form}
use Rattle.lid_stations_text.specs.Forms.{relays_of, caps_of, has_capacities}
use Rattle.lid_stations_text.specs.Faults.{place_where, is_of}

-- for each channel the place of the first of these lines that names it
pub record AreFirstLines (l : Links) (lines : List Line) (places : List (Option ℕ)) : Type 0 where
  pub long : length places ≡ length l.channels
  pub each : (c : ℕ) → c < length l.channels → slice_index_or places c None ≡ place_where (is_of l c) 0 lines

-- the words of a line by its place
abbrev pub words_at : List Line → ℕ → List (List ℕ)
words_at lines i = (slice_index_or lines i (record { number = 0; words = [] })).words

-- a line asks for at most 64 relay stations, and for a capacity in 2 to 16 for each station
pub record IsAmountSound (form : Form) (words : List (List ℕ)) : Type 0 where
  pub few : relays_of form words ≤ 64
  pub caps : has_capacities words ≡ true
  pub long : length (caps_of form words) ≡ relays_of form words + 1

-- where a place is told, a line stands there, and what it says is sound
pub record IsSoundPlace (form : Form) (lines : List Line) (place : Option ℕ) : Type 0 where
  pub within : (i : ℕ) → place ≡ Some i → i < length lines
  pub amount : (i : ℕ) → place ≡ Some i → IsAmountSound form (words_at lines i)

-- the relay stations of the channel of the line at a place
abbrev pub relays_at : Form → List Line → Option ℕ → ℕ
relays_at form lines None = 0
relays_at form lines (Some i) = relays_of form (words_at lines i)

-- the capacities of the channel of the line at a place
abbrev pub caps_at : Form → List Line → Option ℕ → List ℕ
caps_at form lines None = 2 ∷ []
caps_at form lines (Some i) = caps_of form (words_at lines i)

-- a placement of what these lines say at the places of the channels
pub record IsPlacementOf (form : Form) (lines : List Line) (places : List (Option ℕ)) (p : Placement) : Type 0 where
  pub relays : p.relays ≡ map (relays_at form lines) places
  pub few : All (λ k. k ≤ 64) p.relays
  pub caps : p.caps ≡ flat_map (caps_at form lines) places
