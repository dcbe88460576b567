-- What is said of dumps that are read.
use Rattle.std.proofs.Common.{◌≡◌, ℕ, ◌⊎◌, inl, inr, List, sym, ap, subst}
use Rattle.std.specs.Prelude.{Result, Ok, Err}
use Rattle.lid_texts_runs.specs.declared.trace.Trace.{Trace}
use Rattle.lid_vcd.specs.declared.reader.VcdFault.{VcdFault}
use Rattle.lid_vcd.specs.declared.reader.VcdFault.TheVariants as vcd
use Rattle.lid_vcd.specs.Reading.{wave_reading}
use Rattle.lid_top_refusals.specs.Faults.{vcd_line}
use Rattle.lid_top_script.specs.Scripts.{Reading, good, bad, dump_good, dump_read}
use Rattle.lid_top_script.specs.Causes.{Declines, stop_of_dump}

pub dump_is_good : (bytes : List ℕ) (t : Trace) → wave_reading bytes ≡ Ok t → dump_read bytes ≡ good t
unfolding dump_read
dump_is_good bytes t h = ap dump_good h

declined : {A : Type 0} (reading : Reading A) (e : VcdFault) → reading ≡ bad (vcd_line e) → Declines reading (stop_of_dump e)
declined reading (vcd.Word line) h = h
declined reading (vcd.Limit which count) h = h
declined reading vcd.Memory h = tt

declines : (r : Result Trace VcdFault) (e : VcdFault) → (e ≡ vcd.Memory) ⊎ (r ≡ Err e) → Declines (dump_good r) (stop_of_dump e)
declines r e (inl m) = subst (λ f. Declines (dump_good r) (stop_of_dump f)) (sym m) tt
declines r e (inr h) = declined (dump_good r) e (ap dump_good h)

pub dump_declines : (bytes : List ℕ) (e : VcdFault) → (e ≡ vcd.Memory) ⊎ (wave_reading bytes ≡ Err e) → Declines (dump_read bytes) (stop_of_dump e)
unfolding dump_read
dump_declines bytes e h = declines (wave_reading bytes) e h
