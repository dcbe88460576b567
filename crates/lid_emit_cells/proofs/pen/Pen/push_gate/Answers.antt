use Rattle.std.proofs.Common.{[], ◌∷◌, map, ◌∙◌, ap}
use Rattle.lid_cover.specs.declared.Cover.{Cover}
use Rattle.lid_design.specs.declared.Cell.TheVariants.{Names}
use Rattle.lid_base.proofs.Results.{on_ok}
use Rattle.lid_emit_cells.specs.Drafts.{name_at, with_cells}
use Rattle.lid_emit_cells.proofs.pen.Pen.push_gate.Goals as goal

pub returns : goal.returns
returns c = on_ok c.push_cover.result (λ h. h ∙ ap (λ (x : Cover). with_cells c.args.self.now (Names (map (name_at c.args.self.now) c.args.reads.now) (name_at c.args.self.now c.args.wire) x ∷ [])) c.in_ok-cover.ensures) c.push_cover.ensures
