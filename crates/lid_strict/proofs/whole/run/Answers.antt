use Rattle.std.proofs.Common.{◌≡◌, ℕ, List, ◌<◌, length, map, sym, ◌∙◌, ap, subst}
use Rattle.std.specs.List.{AllByRecursion}
use Rattle.lid_base.proofs.Results.{on_ok}
use Rattle.lid_design.specs.Network.{Table, IsStrict}
use Rattle.lid_check_digraph.specs.Graphs.{IsOrder}
use Rattle.lid_check_elab.specs.declared.driver.ColumnDriver.{ColumnDriver}
use Rattle.lid_check_elab.specs.Elaborations.{shown_driver}
use Rattle.lid_strict.specs.Networks.{AreTakenBelow, driver_list, reads_of, rows_at}
use Rattle.lid_check_parts.specs.Parts.{HasCover}
use Rattle.lid_check.proofs.Flats.{covers}
use Rattle.lid_strict.proofs.Outputs.{taken_below, strict_output}
use Rattle.lid_strict.proofs.whole.run.Goals as goal

pub make_ready-requires-clause-ordered : goal.make_ready-requires-clause-ordered
make_ready-requires-clause-ordered g c =
    let d = c.args.design.now in
    subst (λ (order : List ℕ). IsOrder (reads_of (map (shown_driver d) c.as_slice-drivers.result.now)) order) (sym c.as_slice-order.ensures)
    (subst (λ (ds : List ColumnDriver). IsOrder (reads_of (map (shown_driver d) ds)) c.args.network.now.order) (sym c.as_slice-drivers.ensures) c.requires.network.ordered)

pub make_ready-requires-clause-covers : goal.make_ready-requires-clause-covers
make_ready-requires-clause-covers g c =
    let d = c.args.design.now in
    subst (AllByRecursion (HasCover d)) (sym c.as_slice-drivers.ensures)
    (covers d c.args.network.now.columns.drivers c.args.network.now.columns.starts c.requires.network.elaborated c.requires.formed)

pub make_ready-requires-clause-taken : goal.make_ready-requires-clause-taken
make_ready-requires-clause-taken g c =
    let d = c.args.design.now in
    subst (λ (ds : List ColumnDriver). AreTakenBelow (map (shown_driver d) ds)) (sym c.as_slice-drivers.ensures)
    (taken_below d c.args.network.now.columns.drivers c.args.network.now.columns.starts c.requires.network.elaborated)

pub make_ready-requires-clause-outs : goal.make_ready-requires-clause-outs
make_ready-requires-clause-outs g c =
    subst (λ (outs : List ℕ). AllByRecursion (λ (k : ℕ). k < length c.as_slice-drivers.result.now) outs) (sym c.as_slice-outs.ensures)
    (subst (λ (ds : List ColumnDriver). AllByRecursion (λ (k : ℕ). k < length ds) c.args.network.now.outputs) (sym c.as_slice-drivers.ensures) c.requires.network.outputs.below)

pub run_ready-requires-clause-width : goal.run_ready-requires-clause-width
run_ready-requires-clause-width g c =
    c.requires.width ∙ sym (c.in_ok-ready.ensures.many ∙ ap (λ (ks : List ℕ). length ks) c.as_slice-outs.ensures)

pub returns-clause-rows : goal.returns-clause-rows
returns-clause-rows g c =
    let d = c.args.design.now in
    let n = c.args.network.now in
    let rows = g.R.RowSource.rows c.args.rows.now in
    on_ok c.run_ready.result
    (λ has. (
      has.given,
      strict_output d n.columns.drivers n.columns.starts c.requires.network.elaborated n.order n.outputs c.requires.network.ordered c.requires.network.outputs rows has.given
          (subst (λ (outs : List ℕ). (b : Table ℕ) → IsStrict (driver_list (map (shown_driver d) n.columns.drivers)) rows b → has.given ≡ rows_at outs b (length rows)) c.as_slice-outs.ensures
          (subst (λ (ds : List ColumnDriver). (b : Table ℕ) → IsStrict (driver_list (map (shown_driver d) ds)) rows b → has.given ≡ rows_at c.as_slice-outs.result.now b (length rows)) c.as_slice-drivers.ensures
          (λ b strict. has.each b (c.in_ok-ready.ensures.runs rows b strict).fits ∙ (c.in_ok-ready.ensures.runs rows b strict).same))),
      has.held,
    ))
    c.run_ready.ensures.rows
