-- What the calls on a run ask, and what a cycle does to all actors and stations.
use Rattle.std.specs.Prelude.{◌≡◌, ℕ, suc, ◌==◌, Bool, false, if◌then◌else◌, List, length, Some, slice_get}
use Rattle.lid_clock.specs.declared.part.Role.{Role}
use Rattle.lid_clock.specs.declared.part.Role.TheVariants.{Source}
use Rattle.lid_clock.specs.declared.actor.ClockActor.{ClockActor}
use Rattle.lid_clock.specs.declared.station.ClockStation.{ClockStation}
use Rattle.lid_clock.specs.Lives.{Life, IsLife, Holds, sink}
use Rattle.lid_clock.specs.States.{AreActors, AreStations, AreDecided, MayBegin, CanSettle, Settles}

-- whether an actor is held where the source or the sink may be
abbrev pub held_at : ℕ → Bool → Bool → ℕ → Bool
held_at sunk source last v = if v == 0 then source else if v == sunk then last else false

-- all actors can decide
pub record CanDecideAll (actors : List ClockActor) (stations : List ClockStation) : Type 0 where
  pub life : Life
  pub k : ℕ
  pub g : ℕ
  pub begins : MayBegin life k g
  pub all : AreActors life k g actors
  pub beside : AreStations life k stations

-- all actors have decided
abbrev pub AllDecide : List ClockActor → List ClockStation → ℕ → Bool → Bool → List ClockActor → Type 0
AllDecide old stations sunk source last new =
    (l : Life) (k g : ℕ)
    → MayBegin l k g → AreActors l k g old → AreStations l k stations → sunk ≡ sink l → Holds l k source last → AreDecided l k g new

-- all stations can settle
pub record CanSettleAll (stations : List ClockStation) (actors : List ClockActor) : Type 0 where
  pub life : Life
  pub k : ℕ
  pub g : ℕ
  pub rules : IsLife life
  pub all : AreStations life k stations
  pub decided : AreDecided life k g actors

-- all stations have settled
abbrev pub AllSettle : List ClockStation → List ClockActor → List ClockStation → Type 0
AllSettle old actors new =
    (l : Life) (k g : ℕ)
    → IsLife l → AreStations l k old → AreDecided l k g actors → AreStations l (suc k) new

-- each element was changed so
pub record EachChanges {X : Type 0} (R : X → X → Type 0) (old new : List X) : Type 0 where
  pub many : length new ≡ length old
  pub each : (i : ℕ) (x y : X) → slice_get old i ≡ Some x → slice_get new i ≡ Some y → R x y

-- each of these stations can settle
abbrev pub EachCanSettle : List ClockStation → List ClockActor → Type 0
EachCanSettle stations actors = (s : ℕ) (x : ClockStation) → slice_get stations s ≡ Some x → CanSettle x actors

-- each has settled
abbrev pub EachSettles : List ClockStation → List ClockActor → List ClockStation → Type 0
EachSettles old actors new = EachChanges (λ x y. Settles x actors y) old new

-- a source can take a row of this width
abbrev pub CanTake : Role → ℕ → Type 0
CanTake (Source node row) width = length row.items ≡ width
CanTake _ width = Unit {0}

-- a source takes a row
abbrev pub TakesRow : Role → List Bool → Role → Type 0
TakesRow (Source node row) given (Source now line) = (now ≡ node) × (line.items ≡ given)
TakesRow (Source node row) given _ = ⊥
TakesRow old given new = new ≡ old
