-- Stations that are read one after the other.
use Rattle.std.proofs.Common.{◌≡◌, ℕ, ◌+◌, ◌<◌, List, length, get_or, subst, below_more}
use Rattle.lid_clock.specs.declared.station.ClockStation.{ClockStation}
use Rattle.lid_clock.specs.Rings.{IsStationAt, OneIs}
use Rattle.lid_clock.proofs.Elements.{is_read}
use Rattle.lid_base.proofs.Places.{item_read}

module _ (P : ClockStation → Type 0) (reads : List ℕ) (stations : List ClockStation) (i : ℕ) (x : ClockStation) (within : get_or reads i 0 < length stations) (read : x ≡ get_or stations (get_or reads i 0) x) (so : P x) where
  -- the station that is read is one that is so
  pub one_is : i < length reads → OneIs P reads stations
  one_is there = record { place = i; within = there; station = x; is = item_read stations (get_or reads i 0) x within read; so = so }

  -- where those before it are so, it is one more of them
  pub one_more_is : ((j : ℕ) → j < i → (y : ClockStation) → IsStationAt reads stations j y → P y) → (j : ℕ) → j < i + 1 → (y : ClockStation) → IsStationAt reads stations j y → P y
  one_more_is before = below_more _ _ before (λ y there. subst P (is_read stations (get_or reads i 0) x y within read there) so)
