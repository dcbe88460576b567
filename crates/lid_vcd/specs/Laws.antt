-- What is known of dumps.
use Rattle.std.specs.Prelude.{◌≡◌, ℕ, List, [], ◌∷◌, ◌++◌, Option, Some, None, option_and_then, Ok, Err}
use Rattle.lid_texts_runs.specs.declared.trace.Trace.{Trace}
use Rattle.lid_vcd_form.specs.declared.form.Place.{Place}
use Rattle.lid_vcd_form.specs.Words.{placed_words}
use Rattle.lid_vcd_form.specs.Form.{start, step, read_words}
use Rattle.lid_vcd_form.specs.Shows.{Wave}
use Rattle.lid_vcd_form.specs.Text.{wave_text}
use Rattle.lid_vcd_form.specs.Writable.{IsWritable}
use Rattle.lid_vcd.specs.Reading.{wave_reading}

-- the text that is written of a trace shows it
abbrev pub WrittenAreWaves : Type 0
WrittenAreWaves = (t : Trace) → IsWritable t → Wave (wave_text t) t

-- a text shows at most one trace
abbrev pub HaveOneTrace : Type 0
HaveOneTrace = (bytes : List ℕ) (s t : Trace) → Wave bytes s → Wave bytes t → s ≡ t

-- the text that is written of a trace is within the limits, and is read as this trace
abbrev pub WrittenAreRead : Type 0
WrittenAreRead = (t : Trace) → IsWritable t → wave_reading (wave_text t) ≡ Ok t

-- the place after some words, where none of them is refused
abbrev pub place_after : Place → List (ℕ × List ℕ) → Option Place
place_after p [] = Some p
place_after p (word ∷ words) = option_and_then (λ q. place_after q words) (step p word.1)

-- a text none of whose words is refused goes on, after a blank, to one of the form
abbrev pub WordsGoOn : Type 0
WordsGoOn = (bytes : List ℕ) (p : Place) → place_after start (placed_words bytes) ≡ Some p → (more : List ℕ) × (t : Trace) × Wave (bytes ++ 32 ∷ more) t

-- words that begin with one that is refused are of the form by no further words: the line of that word is told
abbrev pub RefusalsStay : Type 0
RefusalsStay = (words : List (ℕ × List ℕ)) (p : Place) (word : ℕ × List ℕ) (more : List (ℕ × List ℕ)) → place_after start words ≡ Some p → step p word.1 ≡ None → read_words 0 start (words ++ word ∷ more) ≡ Err word.0

-- a trace that is read is one that the text shows
abbrev pub ReadAreWaves : Type 0
ReadAreWaves = (bytes : List ℕ) (t : Trace) → wave_reading bytes ≡ Ok t → Wave bytes t
