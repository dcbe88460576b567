-- What a job shows that is `clock`.
use Rattle.std.proofs.Common.{◌≡◌, ℕ, Bool, List, Option, Result, IfErr, sym, ◌∙◌, ap, subst}
use Rattle.lid_base.specs.declared.outside.Fetch.{Fetch}
use Rattle.lid_top_words.specs.declared.job.Job.{Job}
use Rattle.lid_top_words.specs.declared.job.Job.TheVariants.{Clock}
use Rattle.lid_top_script.specs.declared.fault.JobEnd.{JobEnd}
use Rattle.lid_top_script.specs.Scripts.{clock_script, script_of}
use Rattle.lid_top_script.specs.Causes.{IsStoppedJob, job_status}
use Rattle.lid_top_script.specs.Statuses.{Leaves, writes_early}
use Rattle.lid_top_script.specs.Early.{RunsEarly, FetchesEarly}
use Rattle.lid_top_script.specs.Fetches.{FetchesJob}
use Rattle.lid_top.proofs.Fetched.{job_early}

-- the words as the job has them
asked_as : {job : Job} {net vec first second : List ℕ} {stations third stalls : Option (List ℕ)} {workers : ℕ} {trace : Option ℕ} {root fourth : Option (List ℕ)} → job ≡ Clock net vec stations stalls workers trace root
    → first ≡ net → second ≡ vec → third ≡ stations → fourth ≡ root → job ≡ Clock first second third stalls workers trace fourth
asked_as {net = net} {vec = vec} {first = first} {second = second} {stations = stations} {third = third} {stalls = stalls} {workers = workers} {trace = trace} {root = root} is a b c d =
    is
    ∙ ap (λ x. Clock x vec stations stalls workers trace root) (sym a)
    ∙ ap (λ x. Clock first x stations stalls workers trace root) (sym b)
    ∙ ap (λ x. Clock first second x stalls workers trace root) (sym c)
    ∙ ap (λ x. Clock first second third stalls workers trace x) (sym d)

module _ {O : Type 0} {held : List ℕ → Option (List ℕ)} {before after : List ℕ → ℕ} {written : O → Option (List ℕ)} {pieces : O → Option (List (List ℕ))} {writes : O → ℕ} {out out_after : O} {result : Result (Unit {0}) JobEnd} where
  -- the script of the words is that of the job
  pub job_ran : {job : Job} {net vec first second : List ℕ} {stations third stalls : Option (List ℕ)} {workers : ℕ} {trace : Option ℕ} {root fourth : Option (List ℕ)} → job ≡ Clock net vec stations stalls workers trace root
      → first ≡ net → second ≡ vec → third ≡ stations → fourth ≡ root → RunsEarly held (clock_script first second third stalls trace fourth) before after written pieces writes out out_after result
      → RunsEarly held (script_of job) before after written pieces writes out out_after result
  job_ran is a b c d ran = subst (λ (j : Job). RunsEarly held (script_of j) before after written pieces writes out out_after result) (sym (asked_as is a b c d)) ran

  -- `clock` writes early
  pub job_left : {job : Job} {net vec : List ℕ} {stations stalls : Option (List ℕ)} {workers : ℕ} {trace : Option ℕ} {root : Option (List ℕ)} → job ≡ Clock net vec stations stalls workers trace root
      → RunsEarly held (script_of job) before after written pieces writes out out_after result → IfErr result (λ end. IsStoppedJob end → Leaves (writes_early job) held (script_of job) written pieces out out_after)
  job_left {job = job} is ran = subst (λ b. IfErr result (λ end. IsStoppedJob end → Leaves b held (script_of job) written pieces out out_after)) (ap writes_early (sym is)) ran.left

-- the same of its fetches
pub job_fetched : {whole : Bool} {held : List ℕ → Option (List ℕ)} {old new : Option (List Fetch)} {before after : List ℕ → ℕ} (result : Result (Unit {0}) JobEnd) {job : Job} {net vec first second : List ℕ} {stations third stalls : Option (List ℕ)} {workers : ℕ}
    {trace : Option ℕ} {root fourth : Option (List ℕ)} → job ≡ Clock net vec stations stalls workers trace root → first ≡ net → second ≡ vec → third ≡ stations → fourth ≡ root
    → FetchesEarly whole held (clock_script first second third stalls trace fourth) old new before after result → FetchesJob whole held (script_of job) old new before after (job_status result)
job_fetched {whole = whole} {held = held} {old = old} {new = new} {before = before} {after = after} result is a b c d f =
    subst (λ (j : Job). FetchesJob whole held (script_of j) old new before after (job_status result)) (sym (asked_as is a b c d)) (job_early result f)
