-- What is said of stalls that are read.
use Rattle.std.proofs.Common.{◌≡◌, ℕ, ◌⊎◌, inl, inr, List, Option, None, Some, sym, ap, subst}
use Rattle.std.specs.Prelude.{Result, Ok, Err}
use Rattle.lid_stall_text.specs.declared.stalls.Stall.{Stall}
use Rattle.lid_stall_text.specs.declared.stalls.StallFault.{StallFault}
use Rattle.lid_stall_text.specs.declared.stalls.StallFault.TheVariants as stalls
use Rattle.lid_stall_text.specs.Stalls.{stalls_reading}
use Rattle.lid_top_refusals.specs.Faults.{stalls_line}
use Rattle.lid_top_script.specs.Scripts.{Script, Reading, good, bad, text_limit, stalls_good, stalls_read, stalls_step}
use Rattle.lid_top_script.specs.Causes.{Declines, MissesStalls, IsCause, stop_of_stalls}
use Rattle.lid_top_script.specs.declared.fault.Stop.{Stop}
use Rattle.lid_top_script.proofs.Composition.{cause_here}

pub stalls_are_good : (bytes : List ℕ) (list : List Stall) → stalls_reading bytes ≡ Ok list → stalls_read bytes ≡ good list
unfolding stalls_read
stalls_are_good bytes list h = ap stalls_good h

declined : {A : Type 0} (reading : Reading A) (e : StallFault) → reading ≡ bad (stalls_line e) → Declines reading (stop_of_stalls e)
declined reading stalls.Memory h = tt
declined reading _ h = h

declines : (r : Result (List Stall) StallFault) (e : StallFault) → (e ≡ stalls.Memory) ⊎ (r ≡ Err e) → Declines (stalls_good r) (stop_of_stalls e)
declines r e (inl m) = subst (λ f. Declines (stalls_good r) (stop_of_stalls f)) (sym m) tt
declines r e (inr h) = declined (stalls_good r) e (ap stalls_good h)

pub stalls_decline : (bytes : List ℕ) (e : StallFault) → (e ≡ stalls.Memory) ⊎ (stalls_reading bytes ≡ Err e) → Declines (stalls_read bytes) (stop_of_stalls e)
unfolding stalls_read
stalls_decline bytes e h = declines (stalls_reading bytes) e h

-- where the stalls of a job are not had, that is a cause
pub cause_unstalled : (held : List ℕ → Option (List ℕ)) (next : Option (List Stall) → Script) (stalls : Option (List ℕ)) (before after : List ℕ → ℕ) (stop : Stop) → MissesStalls held stalls before after stop → IsCause held (stalls_step stalls next) before after stop
cause_unstalled held next None before after stop m = absurd m
cause_unstalled held next (Some stalls) before after stop m = cause_here held stalls text_limit stalls_read (λ read. next (Some read)) before after stop m
