-- The walk of the system's setup, whose table is that of the design.
use Rattle.std.proofs.Common.{◌≤◌, ℕ, List, length, refl, ◌∙◌, ap, subst, ◌++◌, arith}
use Rattle.lid_check.proofs.Sound.{judged_of}
use Rattle.lid_design.specs.Walks.{HasTable}
use Rattle.lid_design.specs.Columns.{drivers}
use Rattle.lid_walk_machine.specs.Plans.{sink}
use Rattle.lid_walk_machine.specs.Setups.{plan}
use Rattle.lid_shell_laws.specs.Setups.{Setup}
use Rattle.lid_walk_machine.specs.Machine.{begun, answers, after_all}
use Rattle.lid_shell_laws.proofs.Caps.{cap_of_sink}
use Rattle.lid_stations.specs.Placements.{links_of}
use Rattle.lid_top_script.specs.Walked.{answer_lines, IsWalkText}
use Rattle.lid_top_script.specs.Wrapped.{Wrapping}
use Rattle.lid_strict.proofs.Accepted.{table_of}
use Rattle.lid_texts.specs.RowsText.{rows_text}
use Rattle.lid_walk.proofs.Numbers.{sink_there}
use Rattle.lid_top_held.proofs.Walked.{setup, is_setup, is_setup_of, some_setup, walk_text}
use Rattle.lid_top_held.proofs.Feeding.{wide_inside, below_inside}
use Rattle.lid_top_held.proofs.walking.lines_text.Goals as goal

pub walk_on-requires : goal.walk_on-requires
walk_on-requires c =
    let w = c.wrapped.inside in
    let is = c.wrapped.invariant in
    let e = c.design.ensures in
    let run = some_setup w.checked w.system w.placement c.args.fed.now.rows.now.rows (table_of w.checked (judged_of w.checked e.formed e.accepted.models) e.accepted.loops) is.of is.system is.fits c.args.fed.now.few (wide_inside c.wrapped.view_is c.args.fed.now.rows.now.rows c.args.fed.now.wide) in
    (run.0, begun, c.in_ok-walk.ensures run.0 run.1, below_inside c.wrapped.view_is c.args.schedule.now c.requires)

pub into_rows-requires : goal.into_rows-requires
into_rows-requires c =
    let w = c.wrapped.inside in
    let is = c.wrapped.invariant in
    let e = c.design.ensures in
    let run = some_setup w.checked w.system w.placement c.args.fed.now.rows.now.rows (table_of w.checked (judged_of w.checked e.formed e.accepted.models) e.accepted.loops) is.of is.system is.fits c.args.fed.now.few (wide_inside c.wrapped.view_is c.args.fed.now.rows.now.rows c.args.fed.now.wide) in
    (run.0, after_all (plan run.0) begun c.args.schedule.now, c.in_ok-walk_on.ensures.walks run.0 begun (c.in_ok-walk.ensures run.0 run.1))

pub returns : goal.returns
returns c =
    let w = c.wrapped.inside in
    let is = c.wrapped.invariant in
    let d = w.checked in
    let s = w.system in
    let p = w.placement in
    let rows = c.args.fed.now.rows.now.rows in
    let few_rows = c.args.fed.now.few in
    let wide = wide_inside c.wrapped.view_is c.args.fed.now.rows.now.rows c.args.fed.now.wide in
    let e = c.design.ensures in
    let has : HasTable (drivers d) = table_of d (judged_of d e.formed e.accepted.models) e.accepted.loops in
    let table = has rows in
    let m : Setup = setup d s p is.of is.system rows table.0 table.1 in
    let schedule = c.args.schedule.now in
    let rules = is_setup d s p is.of is.system rows table.0 table.1 is.fits few_rows wide in
    let begins = c.in_ok-walk.ensures m (is_setup_of d s p is.of is.system rows table.0 table.1 is.fits few_rows wide) in
    let st = after_all (plan m) begun schedule in
    let walked = c.in_ok-walk_on.ensures.walks m begun begins in
    let given = c.into_rows.ensures m st walked in
    let capped = (walked.sound.actors (sink (plan m)) (sink_there m rules)).capped in
    let most = cap_of_sink s (length rows) is.system.least in
    let few : (st (sink (plan m))).fired ≤ length rows = omega (arith, capped, most) in
    subst (λ (u : Wrapping). IsWalkText u.design (links_of u.system) u.placement rows schedule c.print_rows.new.into.items) c.wrapped.view_is
    (walk_text d s p is.of is.system rows table.0 table.1 schedule c.walk_on.new.into.items
    (rows_text c.into_rows.result.columns c.into_rows.result.bits) c.into_rows.result.columns c.into_rows.result.bits c.print_rows.new.into.items few
    (is.of.sink (sink (plan m)) c.into_rows.result.columns given.0.0 given.0.1).0
    given.1
    (c.in_ok-walk_on.ensures.lines m begun begins ∙ ap (λ (xs : List ℕ). xs ++ answer_lines schedule (answers (plan m) begun schedule)) c.new-text.ensures.items)
    refl
    c.in_ok-print_rows.ensures.ok)
