-- The fetches of a run that writes while it runs: those of the steps that lead into a script, and then those of that
-- script.
use Rattle.std.proofs.Common.{◌≡◌, ℕ, Bool, List, [], Option, Result, Err, refl, ◌∙◌, subst}
use Rattle.lid_base.proofs.Results.{on_ok, if_err}
use Rattle.lid_base.specs.declared.outside.Fetch.{Fetch}
use Rattle.lid_base_io.proofs.Came.{none_came}
use Rattle.lid_top_script.specs.declared.fault.Stop.{Stop}
use Rattle.lid_top_script.specs.declared.fault.Stop.TheVariants.{Memory}
use Rattle.lid_top_script.specs.declared.fault.JobEnd.{JobEnd}
use Rattle.lid_top_script.specs.declared.fault.JobEnd.TheVariants.{Stopped, Unwritten}
use Rattle.lid_top_script.specs.Scripts.{gives, Script, Reading, read_then}
use Rattle.lid_top_script.specs.Causes.{Declines}
use Rattle.lid_top_script.specs.Fetches.{at_end, GoesBy}
use Rattle.lid_top_script.specs.FetchSteps.{halt_of, StepsBy}
use Rattle.lid_top_script.specs.Early.{halt_by, StillBy, FetchesEarly}
use Rattle.lid_top_script.proofs.Going.{still_any, still_later, goes_wanting, goes_declined}
use Rattle.lid_top_script.proofs.Fetched.{came_then, Made}

later : (end : JobEnd) (before mid after : List ℕ → ℕ) → ((q : List ℕ) → mid q ≡ before q) → StillBy end mid after → StillBy end before after
later (Stopped stop) before mid after same still = still_later stop before mid after same still
later Unwritten before mid after same still = λ q. still q ∙ same q

-- a run of the inner script, over the shelf that a step has left
pub early_within : {whole : Bool} {held now : List ℕ → Option (List ℕ)} {inner outer : Script} {old mid new : Option (List Fetch)} {before between after : List ℕ → ℕ} {result : Result (Unit {0}) JobEnd}
    → Made whole held now old mid before between inner outer → FetchesEarly whole now inner mid new between after result → FetchesEarly whole held outer old new before after result
early_within {whole = whole} {held = held} {inner = inner} {old = old} {mid = mid} {new = new} {before = before} {between = between} {after = after} {result = result} m run =
    let f : FetchesEarly whole held inner mid new between after result = subst (λ (h : List ℕ → Option (List ℕ)). FetchesEarly whole h inner mid new between after result) m.same run in
    record {
      done = on_ok result (λ came. came_then old mid new m.leads came (λ first rest w g. (g.0, w.goes rest (at_end (gives g.0)) g.1))) f.done;
      begun = if_err result (λ end came. came_then old mid new m.leads came (λ first rest w g. w.goes rest (halt_by end) g)) f.begun;
      still = on_ok result (λ s q. s q ∙ m.still q) f.still;
      still_by = if_err result (λ end s. later end before between after m.still s) f.still_by;
    }

module _ {whole : Bool} {held : List ℕ → Option (List ℕ)} {script : Script} {old new : Option (List Fetch)} {before after : List ℕ → ℕ} {stop : Stop} where
  -- a run that stops at a step
  pub early_stopped : {A : Type 0} {All : A → List Fetch → Type 0} {Part : Stop → List Fetch → Type 0} → ((calls : List Fetch) → Part stop calls → GoesBy whole held script calls (halt_of stop))
      → StepsBy {A = A} All Part old new before after (Err stop) → FetchesEarly whole held script old new before after (Err (Stopped stop))
  early_stopped goes f = record {
    done = tt;
    begun = (f.begun.0, f.begun.1, goes f.begun.0 f.begun.2);
    still = tt;
    still_by = f.still_at;
  }

module _ {whole : Bool} {held : List ℕ → Option (List ℕ)} {old : Option (List Fetch)} {before : List ℕ → ℕ} where
  -- a reading refuses
  pub early_declined : {A : Type 0} (reading : Reading A) (next : A → Script) (stop : Stop) → Declines reading stop → FetchesEarly whole held (read_then reading next) old old before before (Err (Stopped stop))
  early_declined reading next stop d = record {
    done = tt;
    begun = ([], none_came old, goes_declined whole held reading next stop d);
    still = tt;
    still_by = still_any stop before before (λ q. refl);
  }

  -- memory is wanting before any step
  pub early_wanting : (script : Script) → FetchesEarly whole held script old old before before (Err (Stopped Memory))
  early_wanting script = record {
    done = tt;
    begun = ([], none_came old, goes_wanting whole held script Memory tt);
    still = tt;
    still_by = λ q. refl;
  }
