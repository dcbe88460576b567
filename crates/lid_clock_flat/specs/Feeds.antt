-- Flat runs over rows that are held at hand, in which nobody is held.
use Rattle.std.specs.Prelude.{ℕ, ◌<◌, length}
use Rattle.lid_shell_laws.specs.Setups.{IsInputRow}
use Rattle.lid_clock.specs.Lives.{Life}
use Rattle.lid_clock.specs.Clocks.{IsFreeLife}
use Rattle.lid_texts_packed.specs.Input.{input_of}
use Rattle.lid_clock_flat.specs.declared.rows.FlatRows.{FlatRows}
use Rattle.lid_clock_flat.specs.Clocks.{RanFlat}

-- a run after k cycles of a life of its rows, with room for each of them
pub record Feeds (l : Life) (k : ℕ) (x : FlatRows) : Type 0 where
  pub free : IsFreeLife l (input_of x.input)
  pub room : 0 < length (input_of x.input) → IsInputRow l.setup.system x.row.items
  pub ran : RanFlat l k x.given x.clock

-- a run of some life
abbrev pub IsFeeding : FlatRows → Type 0
IsFeeding x = (l : Life) × (k : ℕ) × Feeds l k x
