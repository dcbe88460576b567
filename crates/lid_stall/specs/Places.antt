-- Places in a list of stalls, as a run goes through it. These serve the calls that do.
use Rattle.std.specs.Prelude.{◌≡◌, ℕ, ◌+◌, ◌<◌, ◌≤◌, ◌==◌, false, if◌then◌else◌, List, Option, Some, None, length, slice_get}
use Rattle.lid_stall_text.specs.declared.stalls.Stall.{Stall}

-- a stall of a cycle that holds nobody
abbrev pub nobody : ℕ → Stall
nobody cycle = record { cycle = cycle; source = false; sink = false }

-- the stall at a place, where it is that of a cycle, and else one that holds nobody
abbrev pub due_of : Option Stall → ℕ → Stall
due_of None cycle = nobody cycle
due_of (Some stall) cycle = if stall.cycle == cycle then stall else nobody cycle

-- the place after it
abbrev pub next_place : Option Stall → ℕ → ℕ → ℕ
next_place None place cycle = place
next_place (Some stall) place cycle = if stall.cycle == cycle then place + 1 else place

-- a place of stalls, where those before it are of cycles before k, and all others of later ones or k itself
pub record Divides (stalls : List Stall) (place k : ℕ) : Type 0 where
  pub most : place ≤ length stalls
  pub before : (i : ℕ) (stall : Stall) → i < place → slice_get stalls i ≡ Some stall → stall.cycle < k
  pub after : (i : ℕ) (stall : Stall) → place ≤ i → slice_get stalls i ≡ Some stall → k ≤ stall.cycle
