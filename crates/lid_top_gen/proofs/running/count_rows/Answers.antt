use Rattle.std.proofs.Common.{◌≤◌, length, sym, ap, subst, arith, IfOk}
use Rattle.std.specs.List.{AllByRecursion}
use Rattle.lid_shell_laws.specs.Setups.{IsInputRow}
use Rattle.lid_gen.specs.Designs.{generated}
use Rattle.lid_gen.specs.Runs.{generated_rows}
use Rattle.lid_stations.specs.Placed.{Placing, IsPlaced}
use Rattle.lid_texts.specs.declared.rows.Rows.{Rows}
use Rattle.lid_top_gen.specs.Counts.{HasLife, AreRunCounts}
use Rattle.lid_top_gen.proofs.Lives.{has_table, row_long, rows_wide, has_life}
use Rattle.lid_top_gen.proofs.Summaries.{four_outputs, run_wide}
use Rattle.lid_top_gen.proofs.running.count_rows.Goals as goal

pub count_run-requires-clause-few : goal.count_run-requires-clause-few
count_run-requires-clause-few c =
    let many = c.generated_runs_fit.ensures.rows c.args.seed c.args.shells c.args.rows in
    let same = ap (λ (r : Rows). length r.bits) c.in_ok-rows.ensures in
    let few = c.requires.few in
    omega (arith, many, same, few)

pub count_run-requires-clause-wide : goal.count_run-requires-clause-wide
count_run-requires-clause-wide c =
    let placed : IsPlaced c.args.placed.now.system c.args.placed.now.placement = subst (λ (v : Placing). IsPlaced v.system v.placement) c.placed.view_is c.placed.invariant in
    let seed = c.args.seed in
    let shells = c.args.shells in
    let made = generated_rows seed shells c.args.rows in
    let fit = c.generated_runs_fit.ensures in
    let wide = run_wide seed shells c.args.rows (fit.columns seed shells c.args.rows c.requires.sized) (fit.wide seed shells c.args.rows) in
    subst (λ (r : Rows). AllByRecursion (IsInputRow c.args.placed.now.system) r.bits) (sym c.in_ok-rows.ensures)
    (rows_wide (generated seed shells) c.args.placed.now.system c.requires.of placed.formed made.bits wide)

pub count_run-requires-clause-narrow : goal.count_run-requires-clause-narrow
count_run-requires-clause-narrow c = λ b t.
    let placed : IsPlaced c.args.placed.now.system c.args.placed.now.placement = subst (λ (v : Placing). IsPlaced v.system v.placement) c.placed.view_is c.placed.invariant in
    let seed = c.args.seed in
    let shells = c.args.shells in
    let long = row_long (generated seed shells) c.args.placed.now.system c.requires.of placed.formed b t in
    let four = four_outputs seed shells in
    omega (arith, long, four)

pub count_run-requires-clause-lives : goal.count_run-requires-clause-lives
count_run-requires-clause-lives c =
    let placed : IsPlaced c.args.placed.now.system c.args.placed.now.placement = subst (λ (v : Placing). IsPlaced v.system v.placement) c.placed.view_is c.placed.invariant in
    let seed = c.args.seed in
    let shells = c.args.shells in
    let d = generated seed shells in
    let made = generated_rows seed shells c.args.rows in
    let fit = c.generated_runs_fit.ensures in
    let wide = run_wide seed shells c.args.rows (fit.columns seed shells c.args.rows c.requires.sized) (fit.wide seed shells c.args.rows) in
    let many = fit.rows seed shells c.args.rows in
    let few = c.requires.few in
    let short : length made.bits ≤ 1000000 = omega (arith, many, few) in
    let good = c.generated_designs_are_accepted.ensures in
    let table = has_table d (good.formed seed shells c.requires.sized) (good.accepted seed shells c.requires.sized) made.bits in
    subst (λ (r : Rows). HasLife c.args.placed.now.system c.args.placed.now.placement r.bits) (sym c.in_ok-rows.ensures)
    (has_life d c.args.placed.now.system c.requires.of placed.formed made.bits wide c.args.placed.now.placement placed.fits short table.0 table.1)

pub returns : goal.returns
returns c =
    subst (λ (r : Rows). IfOk c.count_run.result (λ count. AreRunCounts c.args.placed.now.system c.args.placed.now.placement r.bits count.cycles count.ones)) c.in_ok-rows.ensures c.count_run.ensures
