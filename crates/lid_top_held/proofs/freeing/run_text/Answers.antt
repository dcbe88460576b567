-- The free run of the system's setup, whose table is that of the design.
use Rattle.std.proofs.Common.{ℕ, if◌then◌else◌, List, [], ◌++◌, length, IfOk, ◌∙◌, ap, subst}
use Rattle.lid_net_law.proofs.Agreeing.{rows_are}
use Rattle.lid_base.proofs.Results.{if_ok}
use Rattle.lid_check.proofs.Sound.{judged_of}
use Rattle.lid_design.specs.Walks.{HasTable}
use Rattle.lid_design.specs.Columns.{drivers, root_outputs, output_rows}
use Rattle.lid_free.specs.FreeRuns.{IsLawful}
use Rattle.lid_walk_machine.specs.Plans.{Plan, sink}
use Rattle.lid_walk_machine.specs.Setups.{plan}
use Rattle.lid_shell_laws.specs.Setups.{Setup}
use Rattle.lid_texts_runs.specs.Runs.{tallies_text}
use Rattle.lid_stations.specs.Placements.{links_of}
use Rattle.lid_top_script.specs.Freed.{IsFreeText}
use Rattle.lid_top_script.specs.Wrapped.{Wrapping}
use Rattle.lid_top_script.proofs.Tokens.{are_outputs}
use Rattle.lid_strict.proofs.Accepted.{table_of}
use Rattle.lid_texts.specs.RowsText.{rows_text}
use Rattle.lid_top_held.proofs.Walked.{setup, is_setup_of, same_plan}
use Rattle.lid_top_held.proofs.Feeding.{wide_inside}
use Rattle.lid_top_held.proofs.freeing.run_text.Goals as goal

pub returns : goal.returns
returns g c =
    let w = c.wrapped.inside in
    let q = c.wrapped.invariant in
    let d = w.checked in
    let s = w.system in
    let p = w.placement in
    let rows = c.args.fed.now.rows.now.rows in
    let e = c.design.ensures in
    let has : HasTable (drivers d) = table_of d (judged_of d e.formed e.accepted.models) e.accepted.loops in
    let table = has rows in
    let m : Setup = setup d s p q.of q.system rows table.0 table.1 in
    let end = c.in_ok-end.end in
    let free = c.in_ok-end.ensures m (is_setup_of d s p q.of q.system rows table.0 table.1 q.fits c.args.fed.now.few (wide_inside c.wrapped.view_is c.args.fed.now.rows.now.rows c.args.fed.now.wide)) in
    let named = (q.of.sink (sink (plan m)) end.rows.columns free.columns.0 free.columns.1).0 in
    let told : List ℕ = if c.args.tally then tallies_text end.tallies end.finish end.finish_fired else [] in
    subst (λ (u : Wrapping). IfOk c.end_text.result (λ text. IsFreeText u.design (links_of u.system) u.placement rows c.args.workers c.args.rounds c.args.tally text.items)) c.wrapped.view_is
    (if_ok c.end_text.result
    (λ text written. record {
      table = table.0;
      strict = table.1;
      outs = output_rows d table.0 (length rows);
      are_outs = are_outputs d s q.of q.system table.0 rows table.1;
      run = end;
      lawful = subst (λ (n : Plan). IsLawful n c.args.workers c.args.rounds end) (same_plan d s p q.of q.system rows table.0 table.1) free.lawful;
      written =
          written ∙ ap (λ xs. rows_text xs end.rows.bits ++ told) named
          ∙ ap (λ xs. rows_text (root_outputs d) xs ++ told) (free.rows ∙ rows_are d s q.of q.system rows table.0 table.1);
    })
    c.end_text.ensures)
