use Rattle.std.proofs.Common.{◌≡◌, ◌∷◌, [], ◌<◌, List, length, map, get_or, refl, ◌∙◌, ap, arith}
use Rattle.lid_base.proofs.Places.{get_map, item_read}
use Rattle.lid_design.specs.declared.Model.{Model}
use Rattle.lid_design.specs.declared.Cell.{Cell}
use Rattle.lid_design.specs.Models.{cell_reads, cell_out}
use Rattle.lid_check_table.specs.Tables.{names_in}
use Rattle.lid_check_drivers.specs.Locals.{local_of}
use Rattle.lid_check_elab.specs.Templates.{model_names}
use Rattle.lid_check_elab.proofs.Driving.{left_item}
use Rattle.lid_check_elab.proofs.Naming.{numbers_here, split_next, name_read}
use Rattle.lid_check_elab.proofs.driven.push_cells.Goals as goal

pub push_cell-requires-clause-reads : goal.push_cell-requires-clause-reads
push_cell-requires-clause-reads c =
    let m = c.args.table.now in
    let x = c.index-cells-i.result in
    let cells : c.as_slice-cells.result.now ≡ m.cells = c.as_slice-cells.ensures ∙ ap (λ (m : Model). m.cells) c.model.ensures in
    let below : c.loop-i.i < length m.cells = omega (arith, ap (λ (cs : List Cell). length cs) cells) in
    let is = c.index-cells-i.is ∙ ap (λ (cs : List Cell). get_or cs c.loop-i.i x) cells in
    let split = split_next cell_reads (names_in m) m.cells c.loop-i.i x c.loop-i.left.now c.split_at.result.0.now c.split_at.result.1.now c.count_reads.result is below c.loop-i.invariant.left c.count_reads.ensures c.split_at.ensures.front c.split_at.ensures.back in
    numbers_here c.args.judged.now c.args.model m c.requires.model (cell_reads x) c.split_at.result.0.now split.front

pub push_cell-requires-clause-out : goal.push_cell-requires-clause-out
push_cell-requires-clause-out c =
    let m = c.args.table.now in
    let x = c.index-cells-i.result in
    let cells : c.as_slice-cells.result.now ≡ m.cells = c.as_slice-cells.ensures ∙ ap (λ (m : Model). m.cells) c.model.ensures in
    let below : c.loop-i.i < length m.cells = omega (arith, ap (λ (cs : List Cell). length cs) cells) in
    let is = c.index-cells-i.is ∙ ap (λ (cs : List Cell). get_or cs c.loop-i.i x) cells in
    name_read (model_names c.args.judged.now c.args.model) (map cell_out m.cells) c.outs-outs.result.now c.loop-i.i (cell_out x)
    (numbers_here c.args.judged.now c.args.model m c.requires.model (map cell_out m.cells) c.outs-outs.result.now c.outs-outs.ensures)
    (get_map cell_out m.cells c.loop-i.i x (item_read m.cells c.loop-i.i x below is))

pub loop-i-preserved : goal.loop-i-preserved
loop-i-preserved c =
    let m = c.args.table.now in
    let i = c.loop-i.i in
    let x = c.index-cells-i.result in
    let cells : c.as_slice-cells.result.now ≡ m.cells = c.as_slice-cells.ensures ∙ ap (λ (m : Model). m.cells) c.model.ensures in
    let below : i < length m.cells = omega (arith, ap (λ (cs : List Cell). length cs) cells) in
    let is = c.index-cells-i.is ∙ ap (λ (cs : List Cell). get_or cs i x) cells in
    let split = split_next cell_reads (names_in m) m.cells i x c.loop-i.left.now c.split_at.result.0.now c.split_at.result.1.now c.count_reads.result is below c.loop-i.invariant.left c.count_reads.ensures c.split_at.ensures.front c.split_at.ensures.back in
    record {
      pushed = left_item c.args.judged.now c.args.model (map local_of) (map local_of) (local_of x ∷ []) m.cells i x (λ ys. refl) below is c.loop-i.into c.push_cell.new.into c.args.into.now (map local_of m.cells) c.in_ok-push_cell.ensures c.loop-i.invariant.pushed;
      left = split.back;
    }
