-- Runs of the tests: streams that run some life of these rows.
use Rattle.std.specs.Prelude.{◌≡◌, ℕ, suc, ◌≤◌, Bool, false, List}
use Rattle.lid_clock.specs.declared.stream.ClockStream.{ClockStream}
use Rattle.lid_clock.specs.Lives.{Life, NeedsRow, Holds, HoldsNobody}
use Rattle.lid_clock.specs.Ran.{Ran}

-- a stream runs some life
abbrev pub IsAlive : ClockStream → Type 0
IsAlive x = (l : Life) × (k : ℕ) × (g : ℕ) × Ran l k g x

-- of these rows, of which so many were given
abbrev pub StreamIsFed : List (List Bool) → ℕ → ClockStream → Type 0
StreamIsFed rows g x = (l : Life) × (k : ℕ) × (l.setup.input ≡ rows) × Ran l k g x

-- it was given a row, where one was wanting, in each life of these rows
abbrev pub FeedsStream : List (List Bool) → ℕ → ClockStream → ℕ → ClockStream → Type 0
FeedsStream rows g old now new = (l : Life) (k : ℕ) → l.setup.input ≡ rows → Ran l k g old → Ran l k now new × ¬ (NeedsRow l k now)

-- nobody is held from cycle k on
abbrev pub IsFreeFrom : Life → ℕ → Type 0
IsFreeFrom l k = (j : ℕ) → k ≤ j → HoldsNobody l j

-- it has made no cycle, and nobody will be held but the source in the first one, where this says so
abbrev pub StreamBegins : List (List Bool) → Bool → ℕ → ClockStream → Type 0
StreamBegins rows held g x = (l : Life) × (l.setup.input ≡ rows) × Holds l 0 held false × IsFreeFrom l 1 × Ran l 0 g x

-- nobody will be held
abbrev pub StreamGoes : List (List Bool) → ℕ → ClockStream → Type 0
StreamGoes rows g x = (l : Life) × (k : ℕ) × (l.setup.input ≡ rows) × IsFreeFrom l k × Ran l k g x
