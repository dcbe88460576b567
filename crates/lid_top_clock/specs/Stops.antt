-- How a run ends that stopped.
use Rattle.std.specs.Prelude.{ℕ, List}
use Rattle.std.specs.Borrow.{Bor}
use Rattle.lid_texts_feed.specs.declared.fault.FeedFault.{FeedFault}
use Rattle.lid_texts_feed.specs.declared.fault.FeedFault.TheVariants as feed
use Rattle.lid_top_clock.specs.declared.fault.RunFault.{RunFault}
use Rattle.lid_top_clock.specs.declared.fault.RunFault.TheVariants as run
use Rattle.lid_texts.specs.declared.rows.VecFault.TheVariants.{Changed}
use Rattle.lid_top_refusals.specs.declared.refusal.Refusal.TheVariants.{Rows}
use Rattle.lid_top_script.specs.declared.fault.Stop.{Stop}
use Rattle.lid_top_script.specs.declared.fault.Stop.TheVariants.{Refused, Read, Memory}
use Rattle.lid_top_script.specs.declared.fault.JobEnd.{JobEnd}
use Rattle.lid_top_script.specs.declared.fault.JobEnd.TheVariants.{Stopped, Unwritten}
use Rattle.lid_top_script.specs.Causes.{stop_of_rows}

-- why the rows of a file are not had
abbrev pub stop_of_feed : Bor (List ℕ) → FeedFault → Stop
stop_of_feed vec feed.Read = Read vec
stop_of_feed vec feed.Memory = Memory
stop_of_feed vec (feed.Refused fault) = stop_of_rows fault

-- how a run ends that was to have so many rows
abbrev pub end_of_run : Bor (List ℕ) → ℕ → RunFault → JobEnd
end_of_run vec count (run.Feed fault) = Stopped (stop_of_feed vec fault)
end_of_run vec count (run.Few found) = Stopped (Refused (Rows (Changed count found)))
end_of_run vec count run.Memory = Stopped Memory
end_of_run vec count run.Write = Unwritten
