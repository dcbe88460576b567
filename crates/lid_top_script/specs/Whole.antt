-- How the run of a script ends that gives its text whole.
use Rattle.std.specs.Prelude.{◌≡◌, ◌≤◌, ℕ, Bool, List, Option, Result, IfOk, IfErr}
use Rattle.std.specs.declared.alloc.Global.{Global}
use Rattle.std.specs.declared.vec.Vec.{Vec}
use Rattle.lid_base.specs.declared.outside.Fetch.{Fetch}
use Rattle.lid_top_script.specs.declared.fault.Stop.{Stop}
use Rattle.lid_top_script.specs.Scripts.{Script}
use Rattle.lid_top_script.specs.Causes.{IsCause}
use Rattle.lid_top_script.specs.Statuses.{HasText}
use Rattle.lid_top_script.specs.Fetches.{GoesBy}
use Rattle.lid_top_script.specs.FetchSteps.{HasTextBy, StepsBy, halt_of}

-- over a shelf that held and holds this, whose counts rose so
pub record RunsWhole (held now : List ℕ → Option (List ℕ)) (script : Script) (before after : List ℕ → ℕ) (result : Result (Vec ℕ Global) Stop) : Type 0 where
  -- the text is that of the output in which the script ends
  pub ok : IfOk result (λ text. HasText held script text.items)
  -- where there is none, there is a cause
  pub err : IfErr result (IsCause held script before after)
  -- the files stay, and no count falls
  pub kept : now ≡ held
  pub grows : (q : List ℕ) → before q ≤ after q

-- the fetches by which it runs: those of the script, up to where that halts
abbrev pub FetchesWhole : Bool → (List ℕ → Option (List ℕ)) → Script → Option (List Fetch) → Option (List Fetch) → (List ℕ → ℕ) → (List ℕ → ℕ) → Result (Vec ℕ Global) Stop → Type 0
FetchesWhole whole held script old new before after result =
    StepsBy (λ text. HasTextBy whole held script text.items) (λ stop calls. GoesBy whole held script calls (halt_of stop)) old new before after result

-- how it ends, and by which fetches
pub record RunsBy (whole : Bool) (held now : List ℕ → Option (List ℕ)) (script : Script) (old new : Option (List Fetch)) (before after : List ℕ → ℕ) (result : Result (Vec ℕ Global) Stop) : Type 0 where
  pub ran : RunsWhole held now script before after result
  pub fetched : FetchesWhole whole held script old new before after result

-- the same, by what a shelf tells before and after
abbrev pub RunsOn : {S : Type 0} → Bool → (S → List ℕ → Option (List ℕ)) → (S → Option (List Fetch)) → (S → List ℕ → ℕ) → S → S → Script → Result (Vec ℕ Global) Stop → Type 0
RunsOn whole held fetches faults old new script result = RunsBy whole (held old) (held new) script (fetches old) (fetches new) (faults old) (faults new) result

-- the same of a run without a shelf: it is so whatever one holds
pub record RunsAnywhere (script : Script) (result : Result (Vec ℕ Global) Stop) : Type 0 where
  pub ok : IfOk result (λ text. (held : List ℕ → Option (List ℕ)) → HasText held script text.items)
  pub err : IfErr result (λ stop. (held : List ℕ → Option (List ℕ)) (before after : List ℕ → ℕ) → IsCause held script before after stop)
