use Rattle.std.proofs.Common.{◌*◌, ◌≤◌, IfOk, sym, subst}
use Rattle.lid_base.proofs.Results.{if_ok}
use Rattle.lid_check.proofs.Sound.{judged_of}
use Rattle.lid_strict.proofs.Accepted.{table_of}
use Rattle.lid_stations.specs.Placements.{links_of, station_count}
use Rattle.lid_top_script.specs.Waved.{IsWaveText}
use Rattle.lid_top_script.specs.Wrapped.{Wrapping}
use Rattle.lid_top_held.specs.Traces.{HasFreeLife, IsTraceOfAll}
use Rattle.lid_top_held.proofs.Feeding.{wide_inside}
use Rattle.lid_top_held.proofs.Lifetimes.{alive, trace_writable, dumped}
use Rattle.lid_top_held.proofs.dumping.dump_text.Goals as goal

pub trace_of-requires : goal.trace_of-requires
trace_of-requires c =
    let w = c.wrapped.inside in
    let is = c.wrapped.invariant in
    let e = c.design.ensures in
    let rows = c.args.fed.now.rows.now.rows in
    subst (λ (u : Wrapping). HasFreeLife u rows) c.wrapped.view_is
    (alive w.checked w.system w.placement is.of is.system is.fits rows c.args.fed.now.few (wide_inside c.wrapped.view_is c.args.fed.now.rows.now.rows c.args.fed.now.wide) (table_of w.checked (judged_of w.checked e.formed e.accepted.models) e.accepted.loops))

pub dump_of-requires : goal.dump_of-requires
dump_of-requires c =
    let w = c.wrapped.inside in
    let is = c.wrapped.invariant in
    let e = c.design.ensures in
    let rows = c.args.fed.now.rows.now.rows in
    let told = subst (λ (u : Wrapping). IsTraceOfAll u rows c.args.cycles c.in_ok-trace.trace) (sym c.wrapped.view_is) c.in_ok-trace.ensures in
    let cells = subst (λ (u : Wrapping). station_count u.placement.relays * c.args.cycles ≤ 1048576) (sym c.wrapped.view_is) c.requires.cells in
    trace_writable w.checked w.system w.placement is.of is.system is.fits rows c.args.fed.now.few (wide_inside c.wrapped.view_is c.args.fed.now.rows.now.rows c.args.fed.now.wide) (table_of w.checked (judged_of w.checked e.formed e.accepted.models) e.accepted.loops)
    c.args.cycles c.in_ok-trace.trace told c.requires.most cells

pub returns : goal.returns
returns c =
    let w = c.wrapped.inside in
    let is = c.wrapped.invariant in
    let e = c.design.ensures in
    let rows = c.args.fed.now.rows.now.rows in
    let told = subst (λ (u : Wrapping). IsTraceOfAll u rows c.args.cycles c.in_ok-trace.trace) (sym c.wrapped.view_is) c.in_ok-trace.ensures in
    subst (λ (u : Wrapping). IfOk c.dump_of.result (λ text. IsWaveText u.design (links_of u.system) u.placement rows c.args.cycles text.items)) c.wrapped.view_is
    (if_ok c.dump_of.result
    (λ text. dumped w.checked w.system w.placement is.of is.system is.fits rows c.args.fed.now.few (wide_inside c.wrapped.view_is c.args.fed.now.rows.now.rows c.args.fed.now.wide) (table_of w.checked (judged_of w.checked e.formed e.accepted.models) e.accepted.loops)
    c.args.cycles c.in_ok-trace.trace told text.items)
    c.dump_of.ensures)
