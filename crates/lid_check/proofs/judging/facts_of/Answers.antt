use Rattle.std.proofs.Common.{ℕ, ◌≤◌, List, length, map, sym, subst}
use Rattle.lid_design.specs.declared.Design.{Design}
use Rattle.lid_design.specs.WellFormed.{IsWellFormed}
use Rattle.lid_design.specs.Feeds.{read_now}
use Rattle.lid_check_digraph.specs.Graphs.{IsOrder}
use Rattle.lid_check_elab.specs.declared.driver.ColumnDriver.{ColumnDriver}
use Rattle.lid_check_elab.specs.Elaborations.{shown_driver, IsElaborated}
use Rattle.lid_check_parts.specs.PearlParts.{ArePearlParts}
use Rattle.lid_check.specs.Networks.{AreNumbersOf}
use Rattle.lid_check_loops.proofs.Numbered.{reads_shown}
use Rattle.lid_check.proofs.judging.facts_of.Goals as goal

pub returns : goal.returns
returns c =
    let d = c.args.columns.design in
    let found = c.args.findings in
    let kept = c.into_columns in
    let same = sym kept.ensures.drivers in
    record {
      formed = subst (λ (e : Design). IsWellFormed e) c.judged.ensures.same c.design.ensures.judged.formed;
      accepted = c.requires.accepted;
      inputs = c.requires.ports.inputs;
      counts = c.requires.counts;
      parts = subst (λ (ds : List ColumnDriver). ArePearlParts d ds found.ports.parts) same c.requires.ports.parts;
      network = record {
        elaborated =
            subst (λ (starts : List ℕ). IsElaborated d (map (shown_driver d) kept.result.drivers) starts) (sym kept.ensures.starts)
            (subst (λ (ds : List ColumnDriver). IsElaborated d (map (shown_driver d) ds) c.args.columns.starts) same c.judged.ensures.elaborated);
        few = subst (λ (ds : List ColumnDriver). length ds ≤ 1048576) same c.judged.ensures.few;
        ordered =
            subst (λ (ds : List ColumnDriver). IsOrder (map read_now (map (shown_driver d) ds)) found.order) same
            (subst (λ (g : List (List ℕ)). IsOrder g found.order) (reads_shown d c.args.columns.drivers) c.requires.order);
        outputs = subst (λ (ds : List ColumnDriver). AreNumbersOf d (length ds) found.ports.outputs) same c.requires.ports.outputs;
      };
    }
