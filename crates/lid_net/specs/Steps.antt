-- Numbers of a network that are led back along what drives them.
use Rattle.std.specs.Prelude.{◌≡◌, ◌<◌, ◌⊎◌, ◌↔◌, ℕ, zero, suc, if◌then◌else◌, List, [], ◌∷◌, length, take, Option, Some, None, slice_index_or}
use Rattle.lid_base.specs.Lists.{Among}
use Rattle.lid_cover.specs.declared.Cover.{Cover}
use Rattle.lid_cover.specs.Cover.{cover_value}
use Rattle.lid_design.specs.declared.Design.{Design}
use Rattle.lid_check_elab.specs.declared.driver.ColumnDriver.{ColumnDriver}
use Rattle.lid_check_elab.specs.declared.driver.ColumnDriver.TheVariants.{Input, Latch, Cover as OfCover, Connection}
use Rattle.lid_check_elab.specs.Covers.{cover_in}
use Rattle.lid_check_parts.specs.Parts.{driver_at}
use Rattle.lid_check_rules.specs.Buffers.{passes_on}
use Rattle.lid_net.specs.declared.origin.Origin.{Origin}
use Rattle.lid_net.specs.declared.origin.Origin.TheVariants.{Const, Port}
use Rattle.lid_net.specs.declared.step.BackStep.{BackStep}
use Rattle.lid_net.specs.declared.step.BackStep.TheVariants.{Ends, Passes, Stops}

-- a constant ends, and a buffer passes its input on
abbrev pub cover_step : Cover → List ℕ → BackStep
cover_step cover [] = Ends (Const (cover_value cover []))
cover_step cover (a ∷ []) = if passes_on cover then Passes a else Stops
cover_step cover (a ∷ b ∷ more) = Stops

-- one step back from what is driven so; the inputs of the root are the ports of node 0
abbrev pub step_from : Design → ColumnDriver → BackStep
step_from d (Input place) = Ends (Port 0 place)
step_from d (Latch first input) = Stops
step_from d (OfCover model cell inputs) = cover_step (cover_in d model cell) inputs
step_from d (Connection other) = Passes other

abbrev pub origin_at : List (Option Origin) → ℕ → Option Origin
origin_at origins k = slice_index_or origins k None

-- the origin by a step, where those of the numbers that are passed on are known
abbrev pub origin_after : List (Option Origin) → BackStep → Option Origin
origin_after origins (Ends origin) = Some origin
origin_after origins (Passes a) = origin_at origins a
origin_after origins Stops = None

-- what is known, and else what is found
abbrev pub known_or : Option Origin → Option Origin → Option Origin
known_or (Some o) found = Some o
known_or None found = found

-- by so many steps a number is led back to an origin. It is not led further than to a mark
abbrev pub LeadsWithin : Design → List ColumnDriver → List (Option Origin) → ℕ → ℕ → Origin → Type 0
LeadsWithin d drivers marks zero k o =
    (origin_at marks k ≡ Some o)
    ⊎ ((origin_at marks k ≡ None) × (step_from d (driver_at drivers k) ≡ Ends o))
LeadsWithin d drivers marks (suc n) k o =
    (origin_at marks k ≡ None)
    × (a : ℕ)
    × (step_from d (driver_at drivers k) ≡ Passes a)
    × LeadsWithin d drivers marks n a o

abbrev pub IsLedTo : Design → List ColumnDriver → List (Option Origin) → ℕ → Origin → Type 0
IsLedTo d drivers marks k o = (n : ℕ) × LeadsWithin d drivers marks n k o

-- where a number is led back to, and nothing where it is led back to nothing
abbrev pub IsOriginOf : Design → List ColumnDriver → List (Option Origin) → List (Option Origin) → ℕ → Type 0
IsOriginOf d drivers marks origins k = (o : Origin) → (origin_at origins k ≡ Some o) ↔ IsLedTo d drivers marks k o

-- where each number is led back to
abbrev pub AreOrigins : Design → List ColumnDriver → List (Option Origin) → List (Option Origin) → Type 0
AreOrigins d drivers marks origins = (k : ℕ) → k < length drivers → IsOriginOf d drivers marks origins k

-- the numbers that stand first in an order are led back, and the others have their marks
pub record AreLedSoFar (d : Design) (drivers : List ColumnDriver) (order : List ℕ) (i : ℕ) (marks origins : List (Option Origin)) : Type 0 where
  pub size : length origins ≡ length drivers
  pub left : (k : ℕ) → (Among k (take i order) → ⊥) → origin_at origins k ≡ origin_at marks k
  pub led : (k : ℕ) → Among k (take i order) → IsOriginOf d drivers marks origins k
