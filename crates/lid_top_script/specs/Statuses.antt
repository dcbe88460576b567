-- What each status of a run says.
use Rattle.std.specs.Prelude.{◌≡◌, ◌≢◌, ℕ, ◌≤◌, Bool, true, false, List, Option, None, IsSome, IfSome, ◌⊎◌}
use Rattle.lid_base.specs.declared.outside.Fetch.{Fetch}
use Rattle.lid_base.specs.Outside.{Rose, Appended, AppendedPrefix, Came, CamePrefix}
use Rattle.lid_base_io.specs.Calls.{pieces_of}
use Rattle.lid_top_words.specs.declared.job.Job.{Job}
use Rattle.lid_top_words.specs.declared.job.Job.TheVariants.{Check, Clock, Emit, Free, Gen, Place, Rate, Size, Slack, Strict, Unwave, Verify, Walk, Wave}
use Rattle.lid_top_refusals.specs.Saying.{Says}
use Rattle.lid_top_refusals.specs.Faults.{usage_line, read_line, write_line, memory_line, denied_line}
use Rattle.lid_top_script.specs.Outputs.{Output, IsTextOf}
use Rattle.lid_top_script.specs.Scripts.{Ending, refuses, denies, gives, Script, EndsIn, ReachesFetch, script_of}
use Rattle.lid_top_script.specs.Fetches.{FetchesJob}

-- a text that the script may end in
pub record HasText (held : List ℕ → Option (List ℕ)) (script : Script) (text : List ℕ) : Type 0 where
  pub output : Output
  pub ends : EndsIn held script (gives output)
  pub text_of : IsTextOf output text

-- the whole output was written, in its pieces
pub record Writes {O : Type 0} (held : List ℕ → Option (List ℕ)) (script : Script)
    (written : O → Option (List ℕ)) (pieces : O → Option (List (List ℕ))) (old new : O) : Type 0 where
  pub text : List ℕ
  pub has : HasText held script text
  pub appended : Appended (written old) (written new) text
  pub came : Came (pieces old) (pieces new) (pieces_of text)

-- a prefix of the output was written, by some first of its pieces
pub record WritesPrefix {O : Type 0} (held : List ℕ → Option (List ℕ)) (script : Script)
    (written : O → Option (List ℕ)) (pieces : O → Option (List (List ℕ))) (old new : O) : Type 0 where
  pub text : List ℕ
  pub has : HasText held script text
  pub appended : AppendedPrefix (written old) (written new) text
  pub came : CamePrefix (pieces old) (pieces new) (pieces_of text)

-- the script may end in a refusal, and its line was said
pub record SaysRefusal (held : List ℕ → Option (List ℕ)) (script : Script) (Said : List ℕ → Type 0) : Type 0 where
  pub line : List ℕ
  pub ends : EndsIn held script (refuses line)
  pub said : Said line

-- the count of a file whose step was reached rose, and its name was said
pub record SaysRead (held : List ℕ → Option (List ℕ)) (script : Script) (before after : List ℕ → ℕ) (Said : List ℕ → Type 0) : Type 0 where
  pub file : List ℕ
  pub reached : ReachesFetch held script file
  pub rose : Rose (before file) (after file)
  pub said : Said (read_line file)

-- the count of no file whose step was reached rose
abbrev pub ReadsAll : (List ℕ → Option (List ℕ)) → Script → (List ℕ → ℕ) → (List ℕ → ℕ) → Type 0
ReadsAll held script before after = (file : List ℕ) → ReachesFetch held script file → ¬ Rose (before file) (after file)

-- the shelf tells what each file whose step was reached holds
abbrev pub TellsAll : (List ℕ → Option (List ℕ)) → Script → Type 0
TellsAll held script = (file : List ℕ) → ReachesFetch held script file → IsSome (held file)

-- the status of an ending
abbrev pub status_of : Ending → ℕ
status_of (refuses line) = 1
status_of denies = 6
status_of (gives output) = 0

-- the status is that of an ending of the script
pub record IsStatusOf (held : List ℕ → Option (List ℕ)) (script : Script) (status : ℕ) : Type 0 where
  pub ending : Ending
  pub ends : EndsIn held script ending
  pub same : status ≡ status_of ending

-- whether a job writes while it runs, before its output is whole: of all commands `clock` alone does
abbrev pub writes_early : Job → Bool
writes_early (Check net root) = false
writes_early (Clock net vec stations stalls workers trace root) = true
writes_early (Place net wires reach root) = false
writes_early (Rate net stations root) = false
writes_early (Size net stations root) = false
writes_early (Slack net stations root) = false
writes_early (Strict net vec root) = false
writes_early (Verify net cert stations root) = false
writes_early (Walk net vec schedule stations root) = false
writes_early (Free net vec stations workers rounds tally root) = false
writes_early (Wave net vec stations trace root) = false
writes_early (Unwave file) = false
writes_early (Emit net stations root) = false
writes_early (Gen seed shells run) = false

-- what stands in the output where it is not whole: what stood there before, but for a job that writes
-- early, which may have written a prefix
abbrev pub Leaves : {O : Type 0} → Bool → (List ℕ → Option (List ℕ)) → Script
    → (O → Option (List ℕ)) → (O → Option (List (List ℕ))) → O → O → Type 0
Leaves false held script written pieces old new = new ≡ old
Leaves true held script written pieces old new = (new ≡ old) ⊎ WritesPrefix held script written pieces old new

-- how shelves are seen: whether each fetch gives as many bytes as there is room for or as are left, what names hold,
-- the fetches so far, and a count for each name that rises where a fetch fails
pub record ShelfView (S : Type 0) : Type 0 where
  pub whole : Bool
  pub held : S → List ℕ → Option (List ℕ)
  pub fetches : S → Option (List Fetch)
  pub faults : S → List ℕ → ℕ

abbrev pub shelf_view : {S : Type 0} → Bool → (S → List ℕ → Option (List ℕ)) → (S → Option (List Fetch)) → (S → List ℕ → ℕ) → ShelfView S
shelf_view whole held fetches faults = record { whole = whole; held = held; fetches = fetches; faults = faults }

-- how sinks are seen: what was written, by which pieces, and a count that rises where a write fails
pub record SinkView (O : Type 0) : Type 0 where
  pub written : O → Option (List ℕ)
  pub pieces : O → Option (List (List ℕ))
  pub faults : O → ℕ

abbrev pub sink_view : {O : Type 0} → (O → Option (List ℕ)) → (O → Option (List (List ℕ))) → (O → ℕ) → SinkView O
sink_view written pieces faults = record { written = written; pieces = pieces; faults = faults }

-- what the run of a job shows. `Said` tells of each line whether it was said on the standard error
pub record JobRun {S O : Type 0} (job : Job) (files : ShelfView S) (shelf shelf_after : S) (sink : SinkView O) (out out_after : O)
    (Said : List ℕ → Type 0) (status : ℕ) : Type 0 where
  -- 0: the whole output was written, in its pieces
  pub done : status ≡ 0 → Writes (files.held shelf) (script_of job) sink.written sink.pieces out out_after
  -- 1: a reading, a check or a limit refuses
  pub refused : status ≡ 1 → SaysRefusal (files.held shelf) (script_of job) Said
  -- 3: a fetch of a file failed
  pub read : status ≡ 3 → SaysRead (files.held shelf) (script_of job) (files.faults shelf) (files.faults shelf_after) Said
  -- 4: a write failed; a prefix of the output stands, and some first of its pieces were written
  pub write : status ≡ 4 → Rose (sink.faults out) (sink.faults out_after) × WritesPrefix (files.held shelf) (script_of job) sink.written sink.pieces out out_after
  -- 6: the certificate is none of the graph
  pub denied : status ≡ 6 → EndsIn (files.held shelf) (script_of job) denies
  -- 1, 3, 5, 6: the output is as it was, but for a job that writes early
  pub left : status ≢ 0 → status ≢ 4 → Leaves (writes_early job) (files.held shelf) (script_of job) sink.written sink.pieces out out_after
  -- 1: the output is as it was, for all jobs, where the shelf tells its contents
  pub unwritten : status ≡ 1 → TellsAll (files.held shelf) (script_of job) → out_after ≡ out
  -- where no count rose, the status is that of an ending of the script, or want of memory
  pub complete : ReadsAll (files.held shelf) (script_of job) (files.faults shelf) (files.faults shelf_after) → ¬ Rose (sink.faults out) (sink.faults out_after)
      → (status ≡ 5) ⊎ IsStatusOf (files.held shelf) (script_of job) status
  -- where the shelf tells its fetches, a job makes those of its script and no other; and no count of reads rises but at 3
  pub fetched : FetchesJob files.whole (files.held shelf) (script_of job) (files.fetches shelf) (files.fetches shelf_after) (files.faults shelf) (files.faults shelf_after) status

-- what a run shows, by the job that its words ask for
pub record Run {S O E : Type 0} (asked : Option Job) (files : ShelfView S) (shelf shelf_after : S)
    (sink : SinkView O) (out out_after : O) (errs : SinkView E) (err err_after : E) (status : ℕ) : Type 0 where
  pub most : status ≤ 6
  -- 2: the words are no job
  pub usage : status ≡ 2 → asked ≡ None
  -- words that are no job: nothing is fetched and nothing written
  pub no_job : asked ≡ None → ((status ≡ 2) ⊎ (status ≡ 5)) × (shelf_after ≡ shelf) × (out_after ≡ out)
  pub ran : IfSome asked (λ job. JobRun job files shelf shelf_after sink out out_after
      (Says errs.written errs.pieces errs.faults err err_after) status)
  -- no write of the output failed but at 4
  pub counted : status ≢ 4 → sink.faults out_after ≡ sink.faults out
  -- no fetch changes what is held
  pub kept : files.held shelf_after ≡ files.held shelf
  -- 0: nothing is said
  pub quiet : status ≡ 0 → err_after ≡ err
  -- the lines that tell no file and no refusal
  pub says_usage : status ≡ 2 → Says errs.written errs.pieces errs.faults err err_after usage_line
  pub says_write : status ≡ 4 → Says errs.written errs.pieces errs.faults err err_after write_line
  pub says_memory : status ≡ 5 → Says errs.written errs.pieces errs.faults err err_after memory_line
  pub says_denied : status ≡ 6 → Says errs.written errs.pieces errs.faults err err_after denied_line
