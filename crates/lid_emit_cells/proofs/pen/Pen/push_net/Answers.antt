use Rattle.std.proofs.Common.{[], ◌∷◌, map, ◌∙◌, ap}
use Rattle.lid_base.proofs.Results.{on_ok}
use Rattle.lid_design.specs.declared.Cell.{Cell}
use Rattle.lid_emit_cells.specs.Shown.{wire_of}
use Rattle.lid_emit_cells.specs.Drafts.{name_on, with_cells}
use Rattle.lid_emit_cells.proofs.Shells.{net_done}
use Rattle.lid_emit_cells.proofs.pen.Pen.push_net.Goals as goal

pub returns : goal.returns
returns c =
    on_ok c.push_cover.result (λ h read are.
    h
    ∙ ap (λ (cell : Cell). with_cells c.args.self.now (cell ∷ []))
    (net_done (name_on c.args.self.now) (wire_of c.args.wire) read c.args.c.now.ins c.in_ok-reads.reads.items c.as_slice-2.result.now c.in_ok-cover.cover c.args.c.now.cover
    c.as_slice-2.ensures.value (c.in_ok-reads.ensures read are ∙ ap (map read) c.as_slice.ensures) c.in_ok-cover.ensures)) c.push_cover.ensures
