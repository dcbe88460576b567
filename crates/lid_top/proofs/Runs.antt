-- What a run shows, by how it ended.
use Rattle.std.proofs.Common.{◌≡◌, ℕ, ◌≤◌, Bool, true, false, List, [], Option, Some, None, Result, Ok, Err, OnOk, IfErr, IfSome, is_some, true≢false, inl, inr, refl, sym, ap, subst, arith}
use Rattle.std.specs.Prelude.{◌≢◌}
use Rattle.lid_base.specs.Outside.{Rose}
use Rattle.lid_top_words.specs.declared.job.Job.{Job}
use Rattle.lid_top_script.specs.declared.fault.Stop.TheVariants.{Refused, Read, Memory, Denied}
use Rattle.lid_top_script.specs.declared.fault.JobEnd.{JobEnd}
use Rattle.lid_top_script.specs.declared.fault.JobEnd.TheVariants.{Stopped, Unwritten}
use Rattle.lid_top_refusals.specs.Faults.{write_line, memory_line, denied_line}
use Rattle.lid_top_script.specs.Scripts.{refuses, denies, gives, script_of}
use Rattle.lid_top_refusals.specs.Refusals.{refusal_line}
use Rattle.lid_top_script.specs.Causes.{IsJobEnd, IsStoppedJob, IsRefusedJob, end_status, job_status, end_line}
use Rattle.lid_top_script.specs.Fetches.{between, FetchesJob}
use Rattle.lid_base_io.proofs.Came.{none_came}
use Rattle.lid_top_script.proofs.Going.{goes_wanting}
use Rattle.lid_top_refusals.specs.Saying.{Says}
use Rattle.lid_top_script.specs.Statuses.{Writes, WritesPrefix, TellsAll, Leaves, writes_early, ShelfView, SinkView, JobRun, Run}

is_some_job : {job : Job} → Some job ≡ None → ⊥
is_some_job e = true≢false (ap is_some e)

-- no end has the status of an output that is whole, or of words that are no job
pub record IsEndStatus (status : ℕ) : Type 0 where
  pub some : 1 ≤ status
  pub most : status ≤ 6
  pub job : status ≡ 2 → ⊥

end_statuses : (end : JobEnd) → IsEndStatus (end_status end)
end_statuses (Stopped (Refused refusal)) = record { some = omega arith; most = omega arith; job = λ e. omega (arith, e) }
end_statuses (Stopped (Read file)) = record { some = omega arith; most = omega arith; job = λ e. omega (arith, e) }
end_statuses (Stopped Memory) = record { some = omega arith; most = omega arith; job = λ e. omega (arith, e) }
end_statuses (Stopped Denied) = record { some = omega arith; most = omega arith; job = λ e. omega (arith, e) }
end_statuses Unwritten = record { some = omega arith; most = omega arith; job = λ e. omega (arith, e) }

-- the lines of the statuses that tell no file and no refusal
write_told : (end : JobEnd) → end_status end ≡ 4 → end_line end ≡ write_line
write_told (Stopped (Refused refusal)) e = absurd (omega (arith, e))
write_told (Stopped (Read file)) e = absurd (omega (arith, e))
write_told (Stopped Memory) e = absurd (omega (arith, e))
write_told (Stopped Denied) e = absurd (omega (arith, e))
write_told Unwritten e = refl

memory_told : (end : JobEnd) → end_status end ≡ 5 → end_line end ≡ memory_line
memory_told (Stopped (Refused refusal)) e = absurd (omega (arith, e))
memory_told (Stopped (Read file)) e = absurd (omega (arith, e))
memory_told (Stopped Memory) e = refl
memory_told (Stopped Denied) e = absurd (omega (arith, e))
memory_told Unwritten e = absurd (omega (arith, e))

denied_told : (end : JobEnd) → end_status end ≡ 6 → end_line end ≡ denied_line
denied_told (Stopped (Refused refusal)) e = absurd (omega (arith, e))
denied_told (Stopped (Read file)) e = absurd (omega (arith, e))
denied_told (Stopped Memory) e = absurd (omega (arith, e))
denied_told (Stopped Denied) e = refl
denied_told Unwritten e = absurd (omega (arith, e))

-- what holds of a job that stopped holds but where the status says that a write failed
counted_end : {A : Type 0} (end : JobEnd) → (IsStoppedJob end → A) → end_status end ≢ 4 → A
counted_end (Stopped stop) holds other = holds tt
counted_end Unwritten holds other = absurd (other refl)

module _ {S O E : Type 0} (files : ShelfView S) (sink : SinkView O) (errs : SinkView E) where
  -- the fetches of a job
  abbrev Fetched : Job → S → S → ℕ → Type 0
  Fetched job s t status = FetchesJob files.whole (files.held s) (script_of job) (files.fetches s) (files.fetches t) (files.faults s) (files.faults t) status

  -- memory was wanting before the words were read
  pub run_unread : (asked : Option Job) (s : S) (o : O) (e f : E) → Says errs.written errs.pieces errs.faults e f memory_line → Run asked files s s sink o o errs e f 5
  run_unread asked s o e f says = record {
    most = omega arith;
    usage = λ two. absurd (omega (arith, two));
    no_job = λ none. (inr refl, refl, refl);
    ran = by asked;
    counted = λ _. refl;
    kept = refl;
    quiet = λ zero. absurd (omega (arith, zero));
    says_usage = λ two. absurd (omega (arith, two));
    says_write = λ four. absurd (omega (arith, four));
    says_memory = λ five. says;
    says_denied = λ six. absurd (omega (arith, six));
  }
    where
      leaves : (early : Bool) (job : Job) → Leaves early (files.held s) (script_of job) sink.written sink.pieces o o
      leaves false job = refl
      leaves true job = inl refl

      by : (a : Option Job) → IfSome a (λ job. JobRun job files s s sink o o (Says errs.written errs.pieces errs.faults e f) 5)
      by None = tt
      by (Some job) = record {
        done = λ zero. absurd (omega (arith, zero));
        refused = λ one. absurd (omega (arith, one));
        read = λ three. absurd (omega (arith, three));
        write = λ four. absurd (omega (arith, four));
        denied = λ six. absurd (omega (arith, six));
        left = λ _ _. leaves (writes_early job) job;
        unwritten = λ one. absurd (omega (arith, one));
        complete = λ _ _. inl refl;
        fetched = record {
          came = ([], none_came (files.fetches s), record { halt = between; goes = goes_wanting files.whole (files.held s) (script_of job) Memory tt; halts = refl });
          still = λ _ q. refl;
        };
      }

  -- the output of the job is whole
  pub run_of_whole : (job : Job) (s t : S) (o p : O) (e : E) → Writes (files.held s) (script_of job) sink.written sink.pieces o p → Fetched job s t 0 → files.held t ≡ files.held s → sink.faults p ≡ sink.faults o → Run (Some job) files s t sink o p errs e e 0
  run_of_whole job s t o p e w went kept still = record {
    most = omega arith;
    usage = λ two. absurd (omega (arith, two));
    no_job = λ none. absurd (is_some_job none);
    ran = record {
      done = λ zero. w;
      refused = λ one. absurd (omega (arith, one));
      read = λ three. absurd (omega (arith, three));
      write = λ four. absurd (omega (arith, four));
      denied = λ six. absurd (omega (arith, six));
      left = λ not _. absurd (not refl);
      unwritten = λ one _. absurd (omega (arith, one));
      complete = λ _ _. inr (record { ending = gives w.has.output; ends = w.has.ends; same = refl });
      fetched = went;
    };
    counted = λ _. still;
    kept = kept;
    quiet = λ zero. refl;
    says_usage = λ two. absurd (omega (arith, two));
    says_write = λ four. absurd (omega (arith, four));
    says_memory = λ five. absurd (omega (arith, five));
    says_denied = λ six. absurd (omega (arith, six));
  }

  -- what a run shows whose output is not whole
  module _ (job : Job) (s t : S) (o p : O) (e f : E) where
    job_stopped : (end : JobEnd) → IsJobEnd (files.held s) (script_of job) (files.faults s) (files.faults t) (Rose (sink.faults o) (sink.faults p) × WritesPrefix (files.held s) (script_of job) sink.written sink.pieces o p) end
        → (IsStoppedJob end → Leaves (writes_early job) (files.held s) (script_of job) sink.written sink.pieces o p) → (IsRefusedJob end → TellsAll (files.held s) (script_of job) → p ≡ o)
        → Fetched job s t (end_status end) → Says errs.written errs.pieces errs.faults e f (end_line end) → JobRun job files s t sink o p (Says errs.written errs.pieces errs.faults e f) (end_status end)
    job_stopped (Stopped (Refused refusal)) cause left unwritten went says = record {
      done = λ zero. absurd (omega (arith, zero));
      refused = λ one. record { line = refusal_line refusal; ends = cause; said = says };
      read = λ three. absurd (omega (arith, three));
      write = λ four. absurd (omega (arith, four));
      denied = λ six. absurd (omega (arith, six));
      left = λ _ _. left tt;
      unwritten = λ _. unwritten tt;
      complete = λ _ _. inr (record { ending = refuses (refusal_line refusal); ends = cause; same = refl });
      fetched = went;
    }
    job_stopped (Stopped (Read file)) cause left unwritten went says = record {
      done = λ zero. absurd (omega (arith, zero));
      refused = λ one. absurd (omega (arith, one));
      read = λ three. record { file = file.now; reached = cause.0; rose = cause.1; said = says };
      write = λ four. absurd (omega (arith, four));
      denied = λ six. absurd (omega (arith, six));
      left = λ _ _. left tt;
      unwritten = λ one. absurd (omega (arith, one));
      complete = λ all _. absurd (all file.now cause.0 cause.1);
      fetched = went;
    }
    job_stopped (Stopped Memory) cause left unwritten went says = record {
      done = λ zero. absurd (omega (arith, zero));
      refused = λ one. absurd (omega (arith, one));
      read = λ three. absurd (omega (arith, three));
      write = λ four. absurd (omega (arith, four));
      denied = λ six. absurd (omega (arith, six));
      left = λ _ _. left tt;
      unwritten = λ one. absurd (omega (arith, one));
      complete = λ _ _. inl refl;
      fetched = went;
    }
    job_stopped (Stopped Denied) cause left unwritten went says = record {
      done = λ zero. absurd (omega (arith, zero));
      refused = λ one. absurd (omega (arith, one));
      read = λ three. absurd (omega (arith, three));
      write = λ four. absurd (omega (arith, four));
      denied = λ six. cause;
      left = λ _ _. left tt;
      unwritten = λ one. absurd (omega (arith, one));
      complete = λ _ _. inr (record { ending = denies; ends = cause; same = refl });
      fetched = went;
    }
    job_stopped Unwritten cause left unwritten went says = record {
      done = λ zero. absurd (omega (arith, zero));
      refused = λ one. absurd (omega (arith, one));
      read = λ three. absurd (omega (arith, three));
      write = λ four. cause;
      denied = λ six. absurd (omega (arith, six));
      left = λ _ not. absurd (not refl);
      unwritten = λ one. absurd (omega (arith, one));
      complete = λ _ fine. absurd (fine cause.0);
      fetched = went;
    }

    pub run_of_end : (end : JobEnd) → IsJobEnd (files.held s) (script_of job) (files.faults s) (files.faults t) (Rose (sink.faults o) (sink.faults p) × WritesPrefix (files.held s) (script_of job) sink.written sink.pieces o p) end
        → (IsStoppedJob end → Leaves (writes_early job) (files.held s) (script_of job) sink.written sink.pieces o p) → (IsRefusedJob end → TellsAll (files.held s) (script_of job) → p ≡ o)
        → Fetched job s t (end_status end) → files.held t ≡ files.held s → (IsStoppedJob end → sink.faults p ≡ sink.faults o) → Says errs.written errs.pieces errs.faults e f (end_line end) → Run (Some job) files s t sink o p errs e f (end_status end)
    run_of_end end cause left unwritten went kept wanting says = record {
      most = (end_statuses end).most;
      usage = λ two. absurd ((end_statuses end).job two);
      no_job = λ none. absurd (is_some_job none);
      ran = job_stopped end cause left unwritten went says;
      counted = counted_end end wanting;
      kept = kept;
      quiet = λ zero. absurd (let some = (end_statuses end).some in omega (arith, some, zero));
      says_usage = λ two. absurd ((end_statuses end).job two);
      says_write = λ four. subst (Says errs.written errs.pieces errs.faults e f) (write_told end four) says;
      says_memory = λ five. subst (Says errs.written errs.pieces errs.faults e f) (memory_told end five) says;
      says_denied = λ six. subst (Says errs.written errs.pieces errs.faults e f) (denied_told end six) says;
    }

    -- what the run of a job shows by its result
    pub run_of_result : (result : Result (Unit {0}) JobEnd) (status : ℕ) → OnOk result (Writes (files.held s) (script_of job) sink.written sink.pieces o p)
        → IfErr result (IsJobEnd (files.held s) (script_of job) (files.faults s) (files.faults t) (Rose (sink.faults o) (sink.faults p) × WritesPrefix (files.held s) (script_of job) sink.written sink.pieces o p))
        → IfErr result (λ end. IsStoppedJob end → Leaves (writes_early job) (files.held s) (script_of job) sink.written sink.pieces o p)
        → IfErr result (λ end. IsRefusedJob end → TellsAll (files.held s) (script_of job) → p ≡ o) → Fetched job s t (job_status result) → files.held t ≡ files.held s
        → OnOk result (sink.faults p ≡ sink.faults o) → IfErr result (λ end. IsStoppedJob end → sink.faults p ≡ sink.faults o)
        → OnOk result ((status ≡ 0) × (f ≡ e)) → IfErr result (λ end. (status ≡ end_status end) × Says errs.written errs.pieces errs.faults e f (end_line end)) → Run (Some job) files s t sink o p errs e f status
    run_of_result (Ok done) status whole_text cause left unwritten went kept still wanting whole stopped =
        let of_err : E → Type 0 = λ x. Run (Some job) files s t sink o p errs e x status in
        subst of_err (sym whole.1) (subst (λ n. Run (Some job) files s t sink o p errs e e n) (sym whole.0) (run_of_whole job s t o p e whole_text went kept still))
    run_of_result (Err end) status whole_text cause left unwritten went kept still wanting whole stopped =
        subst (λ n. Run (Some job) files s t sink o p errs e f n) (sym stopped.0) (run_of_end end cause left unwritten went kept wanting stopped.1)
