-- What is read of a text is what it shows.
use Rattle.std.proofs.Common.{◌≡◌, ℕ, Bool, true, false, cond, List, length}
use Rattle.std.specs.Prelude.{nat_lt, Result, Ok, Err}
use Rattle.lid_base.specs.declared.which.Which.TheVariants.{FileBytes, TraceCells}
use Rattle.lid_texts_runs.specs.declared.trace.Trace.{Trace}
use Rattle.lid_vcd_form.specs.Shows.{wave_of}
use Rattle.lid_vcd.specs.declared.reader.VcdFault.{VcdFault}
use Rattle.lid_vcd.specs.declared.reader.VcdFault.TheVariants.{Limit, Word}
use Rattle.lid_vcd.specs.Reading.{cell_count, if_few, judged, wave_reading}

refused : {P : Type 0} (fault : VcdFault) (t : Trace) → (let r : Result Trace VcdFault = Err fault in r) ≡ Ok t → P
refused fault t e = absurd (let f : (let r : Result Trace VcdFault = Err fault in r) ≡ Ok t = e in cc)

few_same : (s t : Trace) → if_few s ≡ Ok t → (let r : Result Trace ℕ = Ok s in r) ≡ Ok t
few_same s t e = by (nat_lt 1048576 (cell_count s.stations s.cycles)) e
  where
    by : (b : Bool) → cond b (Err (Limit TraceCells (cell_count s.stations s.cycles))) (Ok s) ≡ Ok t → (let r : Result Trace ℕ = Ok s in r) ≡ Ok t
    by true f = refused (Limit TraceCells (cell_count s.stations s.cycles)) t f
    by false f = (let g : (let r : Result Trace VcdFault = Ok s in r) ≡ Ok t = f in cc)

judged_same : (r : Result Trace ℕ) (t : Trace) → judged r ≡ Ok t → r ≡ Ok t
judged_same (Ok s) t e = few_same s t e
judged_same (Err line) t e = refused (Word line) t e

pub read_is_wave : (bytes : List ℕ) (t : Trace) → wave_reading bytes ≡ Ok t → wave_of bytes ≡ Ok t
unfolding wave_reading
read_is_wave bytes t e = by (nat_lt 67108864 (length bytes)) e
  where
    by : (b : Bool) → cond b (Err (Limit FileBytes (length bytes))) (judged (wave_of bytes)) ≡ Ok t → wave_of bytes ≡ Ok t
    by true f = refused (Limit FileBytes (length bytes)) t f
    by false f = judged_same (wave_of bytes) t f
