use Rattle.std.proofs.Common.{◌≡◌, Option, Result, IfOk, subst, sym}
use Rattle.std.specs.Option.{IfSome}
use Rattle.lid_base.proofs.Results.{if_ok}
use Rattle.lid_top_words.specs.declared.job.Job.{Job}
use Rattle.lid_top_words.specs.Jobs.{IsJobInRange}
use Rattle.lid_top_words.proofs.Reaches.{reach_positive, workers_few, rounds_few, trace_sound, trace_long, shells_few, run_sound}
use Rattle.lid_top_words.proofs.job.make_job.Goals as goal

same_job : (a b : Option Job) → IfSome b IsJobInRange → a ≡ b → IfSome a IsJobInRange
same_job a b sound e = subst (λ (j : Option Job). IfSome j IsJobInRange) (sym e) sound

-- the job that is made, whose numbers are in their ranges
sound_job : {E : Type 0} (result : Result (Option Job) E) (made : Option Job) → IfOk result (λ job. job ≡ made) → IfSome made IsJobInRange → IfOk result (λ job. IfSome job IsJobInRange)
sound_job result made h sound = if_ok result (λ job e. same_job job made sound e) h

pub returns-in-Check-clause-sound : goal.returns-in-Check-clause-sound
returns-in-Check-clause-sound c = sound_job c.check_job.result _ c.check_job.ensures tt

pub returns-in-Clock-clause-sound : goal.returns-in-Clock-clause-sound
returns-in-Clock-clause-sound c = sound_job c.clock_job.result _ c.clock_job.ensures (workers_few _ c.requires, trace_sound _ c.requires)

pub returns-in-Free-clause-sound : goal.returns-in-Free-clause-sound
returns-in-Free-clause-sound c = sound_job c.free_job.result _ c.free_job.ensures (workers_few _ c.requires, rounds_few _ c.requires)

pub returns-in-Gen-clause-sound : goal.returns-in-Gen-clause-sound
returns-in-Gen-clause-sound c = same_job c.gen_job.result _ (shells_few _ c.requires, run_sound _ c.requires) c.gen_job.ensures

pub returns-in-Place-clause-sound : goal.returns-in-Place-clause-sound
returns-in-Place-clause-sound c = sound_job c.place_job.result _ c.place_job.ensures (reach_positive _ c.requires)

pub returns-in-Rate-clause-sound : goal.returns-in-Rate-clause-sound
returns-in-Rate-clause-sound c = sound_job c.rate_job.result _ c.rate_job.ensures tt

pub returns-in-Strict-clause-sound : goal.returns-in-Strict-clause-sound
returns-in-Strict-clause-sound c = sound_job c.strict_job.result _ c.strict_job.ensures tt

pub returns-in-Verify-clause-sound : goal.returns-in-Verify-clause-sound
returns-in-Verify-clause-sound c = sound_job c.verify_job.result _ c.verify_job.ensures tt

pub returns-in-Unwave-clause-sound : goal.returns-in-Unwave-clause-sound
returns-in-Unwave-clause-sound c = sound_job c.unwave_job.result _ c.unwave_job.ensures tt

pub returns-in-Wave-clause-sound : goal.returns-in-Wave-clause-sound
returns-in-Wave-clause-sound c = sound_job c.wave_job.result _ c.wave_job.ensures (trace_long _ c.requires)

pub returns-in-Emit-clause-sound : goal.returns-in-Emit-clause-sound
returns-in-Emit-clause-sound c = sound_job c.emit_job.result _ c.emit_job.ensures tt

pub returns-in-Size-clause-sound : goal.returns-in-Size-clause-sound
returns-in-Size-clause-sound c = sound_job c.size_job.result _ c.size_job.ensures tt

pub returns-in-Slack-clause-sound : goal.returns-in-Slack-clause-sound
returns-in-Slack-clause-sound c = sound_job c.slack_job.result _ c.slack_job.ensures tt
