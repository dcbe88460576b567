use Rattle.std.proofs.Common.{length, sym, ap, subst, ◌∙◌}
use Rattle.lid_gen.specs.Designs.{generated}
use Rattle.lid_gen.specs.Runs.{generated_rows}
use Rattle.lid_graph.specs.Ratios.{IsRatio}
use Rattle.lid_shell_laws.specs.Runs.{sink_of}
use Rattle.lid_stations.specs.declared.placement.Placement.{Placement}
use Rattle.lid_stations.specs.Markings.{marking}
use Rattle.lid_stations.specs.Placements.{links_of, Fits}
use Rattle.lid_top_gen.specs.Counts.{AreRunCounts}
use Rattle.lid_top_gen.proofs.Fitted.{generated_fits}
use Rattle.lid_top_gen.proofs.Lives.{has_table}
use Rattle.lid_top_gen.proofs.Summaries.{run_wide, is_summary}
use Rattle.lid_top_gen.proofs.running.summarize.Goals as goal

pub invariant_of-placed : goal.invariant_of-placed
invariant_of-placed c =
    let s = c.args.system.now in
    let fit = c.generated_runs_fit.ensures in
    record {
      formed = c.requires.system;
      fits =
          subst (Fits s) (sym c.in_ok-placement.ensures)
          (generated_fits c.args.seed c.args.shells c.args.rows s c.requires.system.few (fit.relays c.args.seed c.args.shells c.args.rows (length s.channels)) (fit.few c.args.seed c.args.shells c.args.rows (length s.channels)));
    }

pub returns : goal.returns
returns c =
    let seed = c.args.seed in
    let shells = c.args.shells in
    let rows = c.args.rows in
    let s = c.args.system.now in
    let fit = c.generated_runs_fit.ensures in
    let good = c.generated_designs_are_accepted.ensures in
    let wide = run_wide seed shells rows (fit.columns seed shells rows c.requires.sized) (fit.wide seed shells rows) in
    let placed = c.in_ok-placement.ensures in
    let has = has_table (generated seed shells) (good.formed seed shells c.requires.sized) (good.accepted seed shells c.requires.sized) in
    let fits = generated_fits seed shells rows s c.requires.system.few (fit.relays seed shells rows (length s.channels)) (fit.few seed shells rows (length s.channels)) in
    let counts = subst (λ (p : Placement). AreRunCounts s p (generated_rows seed shells rows).bits c.in_ok-count.count.cycles c.in_ok-count.count.ones) placed c.in_ok-count.ensures in
    let ratio = subst (λ (p : Placement). IsRatio (marking (links_of s) p) (sink_of (links_of s)) c.in_ok-ratio.ratio.p c.in_ok-ratio.ratio.q) placed c.in_ok-ratio.ensures in
    is_summary seed shells rows s c.requires.of c.requires.system c.requires.graph c.requires.few (fit.rows seed shells rows) wide fits has c.len.result c.len-2.result c.in_ok-count.count.cycles c.in_ok-count.count.ones c.in_ok-ratio.ratio.p c.in_ok-ratio.ratio.q c.len.ensures (c.len-2.ensures ∙ ap (λ (p : Placement). length p.caps) placed) counts ratio
