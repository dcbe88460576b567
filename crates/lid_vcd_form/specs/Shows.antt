-- What a dump shows.
use Rattle.std.specs.Prelude.{◌≡◌, ℕ, zero, suc, ◌-◌, ◌/◌, ◌==◌, if◌then◌else◌, List, [], ◌∷◌, ◌++◌, slice_set, replicate, Option, Some, None, Result, Ok, Err}
use Rattle.lid_base.specs.declared.runs.Shown.{Shown}
use Rattle.lid_texts_runs.specs.declared.trace.Trace.{Trace}
use Rattle.lid_vcd_form.specs.declared.form.Next.{Next}
use Rattle.lid_vcd_form.specs.declared.form.Next.TheVariants.{Time, Set, Bits}
use Rattle.lid_vcd_form.specs.declared.form.Place.{Place}
use Rattle.lid_vcd_form.specs.Form.{start, step, read_words}
use Rattle.lid_vcd_form.specs.Words.{placed_words}

-- a station as its three variables show it: the token counts where it is valid
abbrev pub cell_of : ℕ → ℕ → ℕ → Shown
cell_of valid stop token = record { valid = valid == 1; stop = stop == 1; token = if valid == 1 then token else 0 }

-- all stations, where the variables have these values, three for each
abbrev pub shown_stations : List ℕ → List Shown
shown_stations (valid ∷ stop ∷ token ∷ values) = cell_of valid stop token ∷ shown_stations values
shown_stations _ = []

-- so many cycles in which the variables have these values
abbrev pub cycles_of : ℕ → List ℕ → List Shown
cycles_of zero values = []
cycles_of (suc n) values = shown_stations values ++ cycles_of n values

-- the last `#at`
abbrev pub time_of : Next → ℕ
time_of (Time at) = at
time_of (Set at n value) = at
time_of (Bits at value) = at
time_of _ = 0

-- a change sets its variable, and all others keep their values
abbrev pub values_after : List ℕ → Next → List ℕ
values_after values (Set at n value) = slice_set values n value
values_after values _ = values

-- with a time the cycles from the last time on are known: they show the values that were set last
abbrev pub cycles_until : ℕ → List ℕ → Next → List Shown
cycles_until last values (Time at) = cycles_of (at - last) values
cycles_until last values _ = []

abbrev pub cells_with : ℕ → List ℕ → Option Place → (Place → List ℕ → List Shown) → List Shown
cells_with last values None more = []
cells_with last values (Some p) more = cycles_until last values p.next ++ more p (values_after values p.next)

-- the cells that some words show, from a place on where the variables have these values
abbrev pub cells_on : Place → List ℕ → List (ℕ × List ℕ) → List Shown
cells_on p values [] = []
cells_on p values (word ∷ words) = cells_with (time_of p.next) values (step p word.1) (λ q next. cells_on q next words)

-- the trace of words of the form that end at this place: three variables make a station, there are as many cycles as the last
-- time says, and a variable that was not yet set is 0
abbrev pub trace_at : List (ℕ × List ℕ) → Place → Trace
trace_at words p = record {
  stations = p.variables / 3;
  cycles = time_of p.next;
  cells = cells_on start (replicate p.variables 0) words;
}

abbrev pub trace_of : List (ℕ × List ℕ) → Result Place ℕ → Result Trace ℕ
trace_of words (Ok p) = Ok (trace_at words p)
trace_of words (Err line) = Err line

-- the trace that a text shows, or the line of the word at which it is not of the form
unfoldable pub wave_of : List ℕ → Result Trace ℕ
wave_of bytes = trace_of (placed_words bytes) (read_words 0 start (placed_words bytes))

-- a text is of the form and shows this trace
abbrev pub Wave : List ℕ → Trace → Type 0
Wave bytes trace = wave_of bytes ≡ Ok trace
