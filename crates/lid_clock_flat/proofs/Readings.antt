-- Stations that are read one after the other.
use Rattle.std.proofs.Common.{◌≡◌, ℕ, ◌+◌, ◌<◌, List, length, get_or, sym, ◌∙◌, subst, below_more}
use Rattle.std.proofs.lemmas.Option.{same_Some}
use Rattle.lid_clock_flat.specs.declared.station.FlatStation.{FlatStation}
use Rattle.lid_clock_flat.specs.Reads.{IsReadAt, OneIs}
use Rattle.lid_base.proofs.Places.{item_read}

module _ (P : FlatStation → Type 0) (reads : List ℕ) (stations : List FlatStation) (i : ℕ) (x : FlatStation) (within : get_or reads i 0 < length stations) (read : x ≡ get_or stations (get_or reads i 0) x) (so : P x) where
  -- the station that is read is one that is so
  pub one_is : i < length reads → OneIs P reads stations
  one_is there = record { place = i; within = there; station = x; is = item_read stations (get_or reads i 0) x within read; so = so }

  -- where those before it are so, it is one more of them
  pub one_more_is : ((j : ℕ) → j < i → (y : FlatStation) → IsReadAt reads stations j y → P y) → (j : ℕ) → j < i + 1 → (y : FlatStation) → IsReadAt reads stations j y → P y
  one_more_is before = below_more _ _ before (λ y there. subst P (same_Some x y (sym (item_read stations (get_or reads i 0) x within read) ∙ there)) so)
