-- Rings of places in the list of the places of all stations.
use Rattle.std.specs.Prelude.{◌≡◌, ℕ, ◌+◌, ◌-◌, ◌<◌, ◌≤◌, nat_lt, Bool, if◌then◌else◌, List, length, get_or, Some, slice_get}
use Rattle.lid_clock_flat.specs.declared.station.FlatStation.{FlatStation}

-- a place of a ring of so many, where the first one comes after the last
abbrev pub around : ℕ → ℕ → ℕ
around place cap = if nat_lt place cap then place else place - cap

-- where token number i of a station stands, counted from its oldest
abbrev pub place_at : FlatStation → ℕ → ℕ
place_at x i = x.base + around (x.head + i) x.cap

-- token number i of a station, counted from its oldest
abbrev pub token_on : List ℕ → FlatStation → ℕ → ℕ
token_on places x i = get_or places (place_at x i) 0

-- the places of stations are there, and those of each are its own
pub record RingsAreApart (stations : List FlatStation) (places : List ℕ) : Type 0 where
  pub there : (s : ℕ) (x : FlatStation) → slice_get stations s ≡ Some x → x.base + x.cap ≤ length places
  pub apart : (s t : ℕ) (x y : FlatStation) → slice_get stations s ≡ Some x → slice_get stations t ≡ Some y → s < t → x.base + x.cap ≤ y.base

-- a station gained the token in its free place, or lost its oldest one, or both, or neither
pub record StationSettles (old : FlatStation) (gains loses : Bool) (new : FlatStation) : Type 0 where
  pub filler : new.filler ≡ old.filler
  pub drainer : new.drainer ≡ old.drainer
  pub base : new.base ≡ old.base
  pub cap : new.cap ≡ old.cap
  pub head : new.head ≡ (if loses then around (old.head + 1) old.cap else old.head)
  pub many : new.held + (if loses then 1 else 0) ≡ old.held + (if gains then 1 else 0)
