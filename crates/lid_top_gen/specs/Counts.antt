-- What is counted of a clocked run for rows, in which nobody is held back.
use Rattle.std.specs.Prelude.{◌≡◌, ℕ, Bool, List}
use Rattle.lid_system.specs.declared.System.{System}
use Rattle.lid_stations.specs.declared.placement.Placement.{Placement}
use Rattle.lid_clock.specs.Lives.{Life}
use Rattle.lid_clock.specs.Clocks.{IsFreeLife, IsOver, rows_after}
use Rattle.lid_top_script.specs.Generated.{ones_of}

-- there is such a run
abbrev pub HasLife : System → Placement → List (List Bool) → Type 0
HasLife s p rows = (l : Life) × IsFreeLife l rows × (l.setup.system ≡ s) × (l.setup.placement ≡ p)

-- the cycles after which the sink has fired for each row, and how many bits of the output rows are 1
abbrev pub AreRunCounts : System → Placement → List (List Bool) → ℕ → ℕ → Type 0
AreRunCounts s p rows cycles ones =
    (l : Life) → IsFreeLife l rows → l.setup.system ≡ s → l.setup.placement ≡ p → IsOver l cycles × (ones ≡ ones_of (rows_after l cycles))
