use Rattle.std.proofs.Common.{◌≡◌, ◌<◌, List, true≢false, sym, ◌∙◌, ap, subst, arith}
use Rattle.lid_base.specs.declared.runs.Shown.{Shown}
use Rattle.lid_clock.specs.Lives.{IsBelow}
use Rattle.lid_top_held.specs.Traces.{IsTraceOf, HasTraced}
use Rattle.lid_top_held.proofs.Tracing.{traced_more, trace_ends}
use Rattle.lid_top_held.proofs.dumping.trace_run.Goals.{else-loop-made-test, then-loop-made-test+in_ok-trace_cycle+then-not-branch}
use Rattle.lid_top_held.proofs.dumping.trace_run.Goals as goal

pub loop-made-init : goal.loop-made-init
loop-made-init c = record {
  few = omega arith;
  traced = λ l begins. record { ran = begins.ran; needed = λ j h. absurd (omega arith); shown = c.new-cells.ensures.items };
}

pub trace_cycle-requires : goal.trace_cycle-requires
trace_cycle-requires c =
    let l = c.requires.0 in
    let begins = c.requires.1 in
    (l, c.loop-made.made, (c.loop-made.invariant.traced l begins).ran, begins.all)

pub loop-made-preserved : goal.loop-made-preserved
loop-made-preserved c = record {
  few = (let more = c.loop-made-test.true in omega (arith, more));
  traced = λ l begins.
      let k = c.loop-made.made in
      let has = c.loop-made.invariant.traced l begins in
      let made = c.in_ok-trace_cycle.ensures in
      traced_more l k c.loop-made.run c.loop-made.cells.items has c.trace_cycle.new.run c.trace_cycle.new.cells.items
      (made.made l k has.ran c.if-not-branch.false)
      ((made.below l k has.ran).0 c.if-not-branch.false)
      (made.shown l k has.ran begins.all c.if-not-branch.false);
}

pub returns : goal.returns
returns c = λ l begins.
    let k = c.loop-made.made in
    let has = c.loop-made.invariant.traced l begins in
    let few = c.loop-made.invariant.few in
    let ends : (cells : List Shown) → cells ≡ c.loop-made.cells.items → (k < c.args.cycles → IsBelow l k → ⊥) → IsTraceOf l c.args.cycles (record { stations = c.args.stations; cycles = k; cells = cells }) = λ cells is ended.
    trace_ends l k c.loop-made.run cells (subst (HasTraced l k c.loop-made.run) (sym is) has) c.args.stations c.args.cycles begins.all few ended in
    elim c.loop-made-test.branch [
      | else-loop-made-test w ↦ ends c.from_vec.result (c.from_vec.ensures ∙ ap (λ v. v.items) w.cells-is) (λ less. absurd (let over = w.loop-made-test.false in omega (arith, over)))
      | then-loop-made-test+in_ok-trace_cycle+then-not-branch w ↦
          ends c.from_vec.result (c.from_vec.ensures ∙ ap (λ v. v.items) w.cells-is ∙ w.in_ok-trace_cycle.ensures.still w.if-not-branch.true)
          (λ less below. true≢false (sym ((w.in_ok-trace_cycle.ensures.below l k has.ran).1 below) ∙ w.if-not-branch.true))
    ]
