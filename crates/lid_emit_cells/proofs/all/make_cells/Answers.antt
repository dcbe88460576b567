use Rattle.std.proofs.Common.{◌∙◌, ap}
use Rattle.lid_emit_circuit.specs.Lists.{wires}
use Rattle.lid_emit_cells.specs.Drafts.{Draft, with_wires}
use Rattle.lid_emit_cells.proofs.all.make_cells.Goals as goal

pub returns : goal.returns
returns c = λ q is. c.into_cells.ensures ∙ ap (λ (draft : Draft). draft.cells) (c.in_ok-push_all.ensures q is ∙ ap (λ (draft : Draft). with_wires q draft (wires q)) c.new-pen.ensures)
