use Rattle.std.proofs.Common.{◌≡◌, ◌<◌, List, length, slice_get, refl, sym, ◌∙◌, ap, arith}
use Rattle.lid_base.proofs.Lists.{all_among}
use Rattle.lid_base.proofs.Results.{on_ok}
use Rattle.lid_design.specs.declared.FlatLatch.{FlatLatch}
use Rattle.lid_emit_cells.specs.declared.wire.Wire.{Wire}
use Rattle.lid_emit_cells.specs.Shown.{wire_of}
use Rattle.lid_emit_cells.proofs.Shells.{latch_done}
use Rattle.lid_emit_cells.proofs.pen.Pen.push_state.Goals as goal

pub wire_at-input-requires : goal.wire_at-input-requires
wire_at-input-requires c =
    let nets = c.args.shell.now.flat.nets in
    let below = (all_among (λ (l : FlatLatch). (l.input < nets) × (l.out < nets)) c.args.shell.now.flat.latches c.args.latch c.requires.whole.rules.below.latches c.requires.there).0 in
    let long : length c.as_slice.result.now ≡ length c.args.shell.now.here = ap length c.as_slice.ensures in
    omega (arith, below, c.requires.whole.here)

pub returns : goal.returns
returns c =
    on_ok c.push_gate.result (λ h q is.
    latch_done q c.args.v c.args.shell.now c.requires.whole is c.args.latch c.requires.there c.args.self.now c.push_latch.new.self c.push_gate.new.self (wire_of c.wire_at-input.result)
    (is.here c.args.latch.input c.wire_at-input.result (ap (λ (ws : List Wire). slice_get ws c.args.latch.input) (sym c.as_slice.ensures) ∙ c.wire_at-input.ensures))
    c.in_ok-push_latch.ensures h) c.push_gate.ensures
