use Rattle.std.proofs.Common.{Option, ◌∙◌, sym, subst}
use Rattle.lid_top_words.specs.declared.job.Job.{Job}
use Rattle.lid_top_script.specs.Statuses.{shelf_view, sink_view, Run}
use Rattle.lid_top.proofs.Runs.{run_unread, run_of_result}
use Rattle.lid_top.proofs.top.lid_run.Goals as goal

pub returns-in-Ok-Some : goal.returns-in-Ok-Some
returns-in-Ok-Some g c =
    let HasRun : Option Job → Type 0 = λ asked. Run asked (shelf_view g.S.Shelf.whole g.S.Shelf.held g.S.Shelf.fetches g.S.Shelf.faults) c.args.shelf.now c.run_job.new.shelf
    (sink_view g.O.Sink.written g.O.Sink.pieces g.O.Sink.faults) c.args.out.now c.run_job.new.out (sink_view g.E.Sink.written g.E.Sink.pieces g.E.Sink.faults) c.args.err.now c.status_of.new.err c.status_of.result in
    subst HasRun (sym c.in-Ok-Some.field-0-is ∙ c.in-Ok-Some.ensures.asked)
    (run_of_result (shelf_view g.S.Shelf.whole g.S.Shelf.held g.S.Shelf.fetches g.S.Shelf.faults) (sink_view g.O.Sink.written g.O.Sink.pieces g.O.Sink.faults) (sink_view g.E.Sink.written g.E.Sink.pieces g.E.Sink.faults) c.in-Ok-Some.job c.args.shelf.now c.run_job.new.shelf c.args.out.now
    c.run_job.new.out c.args.err.now c.status_of.new.err c.run_job.result c.status_of.result c.run_job.ensures.done c.run_job.ensures.fails c.run_job.ensures.left c.run_job.ensures.unwritten
    c.run_job.ensures.fetched c.run_job.ensures.kept c.run_job.ensures.still c.run_job.ensures.wanting c.status_of.ensures.whole c.status_of.ensures.stopped)

pub returns-in-Err : goal.returns-in-Err
returns-in-Err g c =
    run_unread (shelf_view g.S.Shelf.whole g.S.Shelf.held g.S.Shelf.fetches g.S.Shelf.faults) (sink_view g.O.Sink.written g.O.Sink.pieces g.O.Sink.faults) (sink_view g.E.Sink.written g.E.Sink.pieces g.E.Sink.faults) _ c.args.shelf.now c.args.out.now c.args.err.now c.say_memory.new.err c.say_memory.ensures
