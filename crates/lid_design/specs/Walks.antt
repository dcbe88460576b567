-- Walks along what columns read, and what is wanted of a network so that it has one strict table.
use Rattle.std.specs.Prelude.{◌≡◌, ℕ, ◌<◌, ◌≤◌, Bool, List, [], ◌∷◌, ◌++◌, length}
use Rattle.lid_base.specs.Lists.{Among}
use Rattle.lid_design.specs.Network.{Driver, from_input, from_latch, from_cover, from_connection, Table, IsStrict}
use Rattle.lid_design.specs.Feeds.{read_now, EdgesLead}

-- the columns whose bits of the row before a driver reads
abbrev pub read_before : {C : Type 0} → Driver C → List C
read_before (from_input j) = []
read_before (from_latch first input) = input ∷ []
read_before (from_cover cover inputs) = []
read_before (from_connection c) = []

-- no walk of n edges ends at c
abbrev pub HasNoWalk : {C : Type 0} → (C → List (Driver C)) → ℕ → C → Type 0
HasNoWalk {C} drivers n c = (a : C) → EdgesLead drivers n a c → ⊥

-- no walk has n edges
abbrev pub WalksEnd : {C : Type 0} → (C → List (Driver C)) → ℕ → Type 0
WalksEnd {C} drivers n = (c : C) → HasNoWalk drivers n c

abbrev pub IsDriven : {C : Type 0} → (C → List (Driver C)) → C → Type 0
IsDriven drivers c = 0 < length (drivers c)

-- no column is driven twice
abbrev pub IsDrivenOnce : {C : Type 0} → (C → List (Driver C)) → Type 0
IsDrivenOnce {C} drivers = (c : C) → length (drivers c) ≤ 1

-- what a driver reads is driven
abbrev pub AreReadsDriven : {C : Type 0} → (C → List (Driver C)) → Type 0
AreReadsDriven {C} drivers =
    (c : C) (s : Driver C) (a : C) → Among s (drivers c) → Among a (read_now s ++ read_before s) → IsDriven drivers a

-- there is a strict table for any rows
abbrev pub HasTable : {C : Type 0} → (C → List (Driver C)) → Type 0
HasTable {C} drivers = (rows : List (List Bool)) → (b : Table C) × IsStrict drivers rows b

-- two strict tables agree at all driven columns
abbrev pub HasOneTable : {C : Type 0} → (C → List (Driver C)) → Type 0
HasOneTable {C} drivers =
    (rows : List (List Bool)) (b b' : Table C)
    → IsStrict drivers rows b
    → IsStrict drivers rows b'
    → (t : ℕ) (c : C)
    → t < length rows
    → IsDriven drivers c
    → b t c ≡ b' t c
