-- Stations as rings of places, whatever the tokens are.
use Rattle.std.specs.Prelude.{◌≡◌, ℕ, ◌+◌, ◌<◌, ◌≤◌, ◌%◌, List, length, Some, get_or, slice_get}
use Rattle.lid_clock.specs.declared.station.ClockStation.{ClockStation}

-- the token of a number in the places of a station
abbrev pub token_in : List ℕ → ℕ → ℕ
token_in places i = get_or places (i % length places) 0

-- each station that is read exists
abbrev pub AreThere : List ℕ → List ClockStation → Type 0
AreThere reads stations = (i : ℕ) → i < length reads → get_or reads i 0 < length stations

-- the station at a place of a list of numbers
abbrev pub IsStationAt : List ℕ → List ClockStation → ℕ → ClockStation → Type 0
IsStationAt reads stations i x = slice_get stations (get_or reads i 0) ≡ Some x

-- each station that is read is so
abbrev pub AllAre : (ClockStation → Type 0) → List ℕ → List ClockStation → Type 0
AllAre P reads stations = (i : ℕ) → i < length reads → (x : ClockStation) → IsStationAt reads stations i x → P x

-- one of them is so
pub record OneIs (P : ClockStation → Type 0) (reads : List ℕ) (stations : List ClockStation) : Type 0 where
  pub place : ℕ
  pub within : place < length reads
  pub station : ClockStation
  pub is : IsStationAt reads stations place station
  pub so : P station

-- each station that is read holds a token
abbrev pub AllHold : List ℕ → List ClockStation → Type 0
AllHold = AllAre (λ x. x.taken < x.put)

-- one of them is empty
abbrev pub OneIsEmpty : List ℕ → List ClockStation → Type 0
OneIsEmpty = OneIs (λ x. x.put ≤ x.taken)

-- each station has room
abbrev pub AllHaveRoom : List ℕ → List ClockStation → Type 0
AllHaveRoom = AllAre (λ x. x.put < x.taken + length x.places)

-- one of them is full
abbrev pub OneIsFull : List ℕ → List ClockStation → Type 0
OneIsFull = OneIs (λ x. x.taken + length x.places ≤ x.put)

-- these are the oldest tokens of stations
pub record AreOldest (reads : List ℕ) (stations : List ClockStation) (tokens : List ℕ) : Type 0 where
  pub many : length tokens ≡ length reads
  pub each : (i : ℕ) → i < length reads → (x : ClockStation) → IsStationAt reads stations i x → get_or tokens i 0 ≡ token_in x.places x.taken
