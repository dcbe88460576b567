-- How the run of a script ends that writes while it runs.
use Rattle.std.specs.Prelude.{◌≡◌, ℕ, Bool, true, List, Option, Result, OnOk, IfErr}
use Rattle.lid_base.specs.declared.outside.Fetch.{Fetch}
use Rattle.lid_base_io.specs.Calls.{CameAs}
use Rattle.lid_base.specs.Outside.{Rose}
use Rattle.lid_top_script.specs.declared.fault.JobEnd.{JobEnd}
use Rattle.lid_top_script.specs.declared.fault.JobEnd.TheVariants.{Stopped, Unwritten}
use Rattle.lid_top_script.specs.Outputs.{Output}
use Rattle.lid_top_script.specs.Scripts.{gives, Script}
use Rattle.lid_top_script.specs.Causes.{IsJobEnd, IsStoppedJob, IsRefusedJob}
use Rattle.lid_top_script.specs.Statuses.{Writes, WritesPrefix, TellsAll, Leaves}
use Rattle.lid_top_script.specs.Fetches.{Halt, at_end, at_write, GoesBy}
use Rattle.lid_top_script.specs.FetchSteps.{halt_of, StillAt}

-- over a shelf that holds this, whose counts rose so, from an output to one with what was written, and by which pieces
pub record RunsEarly {O : Type 0} (held : List ℕ → Option (List ℕ)) (script : Script) (before after : List ℕ → ℕ)
    (written : O → Option (List ℕ)) (pieces : O → Option (List (List ℕ))) (writes : O → ℕ) (out out_after : O)
    (result : Result (Unit {0}) JobEnd) : Type 0 where
  -- done: the whole output was written, in its pieces
  pub done : OnOk result (Writes held script written pieces out out_after)
  -- it fails for a cause; where a write failed, a prefix of the output stands, by some first of its pieces
  pub fails : IfErr result (IsJobEnd held script before after (Rose (writes out) (writes out_after) × WritesPrefix held script written pieces out out_after))
  -- where no write failed, nothing or a prefix of the output was written
  pub left : IfErr result (λ end. IsStoppedJob end → Leaves true held script written pieces out out_after)
  -- where a reading or a limit refused, and the shelf tells its contents, nothing was written
  pub unwritten : IfErr result (λ end. IsRefusedJob end → TellsAll held script → out_after ≡ out)

-- the fetches by which a script comes to an output
abbrev pub GoesToOutput : Bool → (List ℕ → Option (List ℕ)) → Script → List Fetch → Type 0
GoesToOutput whole held script calls = (output : Output) × GoesBy whole held script calls (at_end (gives output))

-- where a script halts whose run ends so
abbrev pub halt_by : JobEnd → Halt
halt_by (Stopped stop) = halt_of stop
halt_by Unwritten = at_write

-- counts rose only where a fetch failed
abbrev pub StillBy : JobEnd → (List ℕ → ℕ) → (List ℕ → ℕ) → Type 0
StillBy (Stopped stop) before after = StillAt stop before after
StillBy Unwritten before after = (q : List ℕ) → after q ≡ before q

-- the fetches by which it runs: those of the script, up to where that halts
pub record FetchesEarly (whole : Bool) (held : List ℕ → Option (List ℕ)) (script : Script) (old new : Option (List Fetch)) (before after : List ℕ → ℕ) (result : Result (Unit {0}) JobEnd) : Type 0 where
  pub done : OnOk result (CameAs old new (GoesToOutput whole held script))
  pub begun : IfErr result (λ end. CameAs old new (λ calls. GoesBy whole held script calls (halt_by end)))
  pub still : OnOk result ((q : List ℕ) → after q ≡ before q)
  pub still_by : IfErr result (λ end. StillBy end before after)
