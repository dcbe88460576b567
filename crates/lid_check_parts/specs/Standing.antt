-- What the drivers of a flat part stand for, where its nets stand for columns.
use Rattle.std.specs.Prelude.{◌≡◌, ◌⊎◌, ⊤, ℕ, true, List, [], ◌∷◌, map}
use Rattle.lid_base.specs.Lists.{Among}
use Rattle.lid_design.specs.declared.Flat.{Flat}
use Rattle.lid_design.specs.Network.{Driver, from_input, from_latch, from_cover, from_connection}
use Rattle.lid_design.specs.Flat.{flat_drivers}
use Rattle.lid_check_rules.specs.Buffers.{passes_on}

-- a driver of a net stands for a driver of a column, where net k stands for column `col k`: a latch and a
-- cover for the same ones of columns, and a cover that passes one net on for a connection too
abbrev pub StandsFor : {C : Type 0} → (ℕ → C) → Driver ℕ → Driver C → Type 0
StandsFor col (from_input j) r = ⊥
StandsFor col (from_latch first k) r = r ≡ from_latch first (col k)
StandsFor col (from_cover cover ks) r = (r ≡ from_cover cover (map col ks)) ⊎ ((k : ℕ) × (ks ≡ k ∷ []) × (passes_on cover ≡ true) × (r ≡ from_connection (col k)))
StandsFor col (from_connection k) r = ⊥

abbrev pub IsInput : {C : Type 0} → Driver C → Type 0
IsInput (from_input j) = ⊤
IsInput (from_latch first k) = ⊥
IsInput (from_cover cover ks) = ⊥
IsInput (from_connection k) = ⊥

-- each driver of a net of a flat part is an input, or stands for a driver of the net's column
abbrev pub StandsForAll : {C : Type 0} → (C → List (Driver C)) → (ℕ → C) → Flat → Type 0
StandsForAll {C} drivers col f =
    (k : ℕ) (s : Driver ℕ)
    → Among s (flat_drivers f k)
    → IsInput s ⊎ ((r : Driver C) × Among r (drivers (col k)) × StandsFor col s r)
