-- The fetches of a job.
use Rattle.std.proofs.Common.{◌≡◌, ◌≢◌, ℕ, Bool, List, Option, Result, Ok, Err, IfErr, inl, inr, refl, ap}
use Rattle.std.specs.declared.alloc.Global.{Global}
use Rattle.std.specs.declared.vec.Vec.{Vec}
use Rattle.lid_base.specs.declared.outside.Fetch.{Fetch}
use Rattle.lid_top_script.specs.declared.fault.Stop.{Stop}
use Rattle.lid_top_script.specs.declared.fault.Stop.TheVariants.{Refused, Read, Memory, Denied}
use Rattle.lid_top_script.specs.declared.fault.JobEnd.{JobEnd}
use Rattle.lid_top_script.specs.declared.fault.JobEnd.TheVariants.{Stopped, Unwritten}
use Rattle.lid_top_script.specs.Scripts.{gives, Script, end, size_read, generating, gen_script}
use Rattle.lid_top_script.specs.Causes.{IsStoppedJob, stop_status, end_status, job_status}
use Rattle.lid_top_script.specs.Early.{FetchesEarly}
use Rattle.lid_top_script.specs.Fetches.{at_end, at_write, between, IsStatusAt, FetchesJob}
use Rattle.lid_top_script.specs.FetchSteps.{halt_of, StillAt, FetchesNothing}
use Rattle.lid_top_script.specs.Whole.{RunsBy}
use Rattle.lid_top_script.proofs.Going.{goes_short, then_nothing}

-- each halt has its status
halts_at : (stop : Stop) → IsStatusAt (halt_of stop) (stop_status stop)
halts_at (Refused refusal) = refl
halts_at (Read file) = refl
halts_at Memory = refl
halts_at Denied = refl

-- no count rose but at 3
still_but : (stop : Stop) (before after : List ℕ → ℕ) → StillAt stop before after → stop_status stop ≢ 3 → (q : List ℕ) → after q ≡ before q
still_but (Refused refusal) before after still _ = still
still_but (Read file) before after still not = absurd (not refl)
still_but Memory before after still _ = still
still_but Denied before after still _ = still

module _ {whole : Bool} {held now : List ℕ → Option (List ℕ)} {script : Script} {old new : Option (List Fetch)} {before after : List ℕ → ℕ} where
  -- the text was whole, and then it was written, or a write failed, or memory was wanting
  pub job_written : (P : Type 0) {text : Vec ℕ Global} (result : Result (Unit {0}) JobEnd) → RunsBy whole held now script old new before after (Ok text)
      → IfErr result (λ end. IsStoppedJob end → (end ≡ Stopped Memory) × P) → FetchesJob whole held script old new before after (job_status result)
  job_written P (Ok done) run memory =
      let came = run.fetched.done in
      record {
        came = (came.0, came.1, record { halt = at_end (gives came.2.output); goes = came.2.goes; halts = inl refl });
        still = λ _. run.fetched.still;
      }
  job_written P (Err (Stopped stop)) run memory =
      let came = run.fetched.done in
      record {
        came = (came.0, came.1, record { halt = between; goes = goes_short whole held script came.0 (gives came.2.output) came.2.goes; halts = ap end_status (memory tt).0 });
        still = λ _. run.fetched.still;
      }
  job_written P (Err Unwritten) run memory =
      let came = run.fetched.done in
      record {
        came = (came.0, came.1, record { halt = at_end (gives came.2.output); goes = came.2.goes; halts = inr refl });
        still = λ _. run.fetched.still;
      }

  -- there was no text
  pub job_untold : (stop : Stop) → RunsBy whole held now script old new before after (Err stop) → FetchesJob whole held script old new before after (stop_status stop)
  job_untold stop run =
      let came = run.fetched.begun in
      record {
        came = (came.0, came.1, record { halt = halt_of stop; goes = came.2; halts = halts_at stop });
        still = still_but stop before after run.fetched.still_at;
      }

-- a run that writes while it runs
pub job_early : {whole : Bool} {held : List ℕ → Option (List ℕ)} {script : Script} {old new : Option (List Fetch)} {before after : List ℕ → ℕ} (result : Result (Unit {0}) JobEnd) → FetchesEarly whole held script old new before after result
    → FetchesJob whole held script old new before after (job_status result)
job_early (Ok done) run =
    let came = run.done in
    record { came = (came.0, came.1, record { halt = at_end (gives came.2.0); goes = came.2.1; halts = inl refl }); still = λ _. run.still }
job_early {before = before} {after = after} (Err (Stopped stop)) run =
    let came = run.begun in
    record { came = (came.0, came.1, record { halt = halt_of stop; goes = came.2; halts = halts_at stop }); still = still_but stop before after run.still_by }
job_early (Err Unwritten) run =
    let came = run.begun in
    record { came = (came.0, came.1, record { halt = at_write; goes = came.2; halts = refl }); still = λ _. run.still_by }

-- `gen` fetches nothing
pub gen_fetches_nothing : (seed shells : ℕ) (run : Option ℕ) → FetchesNothing (gen_script seed shells run)
unfolding gen_script
gen_fetches_nothing seed shells run = then_nothing (size_read shells) (λ _. end (gives (generating seed shells run))) (λ _. tt)
