-- What drivers read in the same row, and walks along it.
use Rattle.std.specs.Prelude.{◌≡◌, ℕ, zero, suc, List, [], ◌∷◌}
use Rattle.lid_base.specs.Lists.{Among}
use Rattle.lid_design.specs.Network.{Driver, from_input, from_latch, from_cover, from_connection}

-- the columns whose bits of the same row a driver reads
abbrev pub read_now : {C : Type 0} → Driver C → List C
read_now (from_input j) = []
read_now (from_latch first input) = []
read_now (from_cover cover inputs) = inputs
read_now (from_connection c) = c ∷ []

-- a driver of c reads a in the same row
abbrev pub Feeds : {C : Type 0} → (C → List (Driver C)) → C → C → Type 0
Feeds {C} drivers a c = (s : Driver C) × Among s (drivers c) × Among a (read_now s)

-- so many edges lead from a to c
abbrev pub EdgesLead : {C : Type 0} → (C → List (Driver C)) → ℕ → C → C → Type 0
EdgesLead drivers zero a c = a ≡ c
EdgesLead {C} drivers (suc n) a c = (b : C) × EdgesLead drivers n a b × Feeds drivers b c
