-- Stations that are read by their numbers, and what is offered to them.
use Rattle.std.specs.Prelude.{◌≡◌, ◌≢◌, ℕ, ◌<◌, Bool, true, false, List, length, get_or, Some, slice_get}
use Rattle.lid_clock_flat.specs.declared.station.FlatStation.{FlatStation}
use Rattle.lid_clock_flat.specs.declared.stations.FlatStations.{FlatStations}
use Rattle.lid_clock_flat.specs.Rings.{token_on, StationSettles}

-- each station that is read exists
abbrev pub AreThere : List ℕ → List FlatStation → Type 0
AreThere reads stations = (i : ℕ) → i < length reads → get_or reads i 0 < length stations

-- no station is read twice
abbrev pub AreReadOnce : List ℕ → Type 0
AreReadOnce reads = (i j : ℕ) → i < length reads → j < length reads → get_or reads i 0 ≡ get_or reads j 0 → i ≡ j

-- the station at a place of a list of numbers
abbrev pub IsReadAt : List ℕ → List FlatStation → ℕ → FlatStation → Type 0
IsReadAt reads stations i x = slice_get stations (get_or reads i 0) ≡ Some x

-- each station that is read is so
abbrev pub AllAre : (FlatStation → Type 0) → List ℕ → List FlatStation → Type 0
AllAre P reads stations = (i : ℕ) → i < length reads → (x : FlatStation) → IsReadAt reads stations i x → P x

-- one of them is so
pub record OneIs (P : FlatStation → Type 0) (reads : List ℕ) (stations : List FlatStation) : Type 0 where
  pub place : ℕ
  pub within : place < length reads
  pub station : FlatStation
  pub is : IsReadAt reads stations place station
  pub so : P station

-- each station that is read holds a token
abbrev pub AllHold : List ℕ → List FlatStation → Type 0
AllHold = AllAre (λ x. 0 < x.held)

-- one of them is empty
abbrev pub OneIsEmpty : List ℕ → List FlatStation → Type 0
OneIsEmpty = OneIs (λ x. x.held ≡ 0)

-- each station that is read has room
abbrev pub AllHaveRoom : List ℕ → List FlatStation → Type 0
AllHaveRoom = AllAre (λ x. x.held < x.cap)

-- one of them is full
abbrev pub OneIsFull : List ℕ → List FlatStation → Type 0
OneIsFull = OneIs (λ x. x.held ≡ x.cap)

-- the first i of these tokens were offered to the stations that are read, and nothing else was written
pub record AreOffered (reads tokens : List ℕ) (i : ℕ) (old new : FlatStations) : Type 0 where
  pub all : new.all ≡ old.all
  pub many : length new.places.items ≡ length old.places.items
  pub kept : (s n : ℕ) (y : FlatStation) → slice_get old.all.items s ≡ Some y → n < y.held → token_on new.places.items y n ≡ token_on old.places.items y n
  pub free : (s : ℕ) (y : FlatStation) → slice_get old.all.items s ≡ Some y → ((j : ℕ) → j < i → get_or reads j 0 ≢ s) → token_on new.places.items y y.held ≡ token_on old.places.items y y.held
  pub each : (j : ℕ) → j < i → (y : FlatStation) → IsReadAt reads old.all.items j y → token_on new.places.items y y.held ≡ get_or tokens j 0

-- a station can settle, where these actors fired
pub record CanSettle (went : List Bool) (x : FlatStation) : Type 0 where
  pub filled : x.filler < length went
  pub drained : x.drainer < length went
  pub room : get_or went x.filler false ≡ true → x.held < x.cap
  pub some : get_or went x.drainer false ≡ true → 0 < x.held

-- a station has settled where these actors fired
abbrev pub Settles : List Bool → FlatStation → FlatStation → Type 0
Settles went old new = StationSettles old (get_or went old.filler false) (get_or went old.drainer false) new

-- all stations have settled
pub record AllSettle (went : List Bool) (old new : List FlatStation) : Type 0 where
  pub many : length new ≡ length old
  pub each : (s : ℕ) (x y : FlatStation) → slice_get old s ≡ Some x → slice_get new s ≡ Some y → Settles went x y
