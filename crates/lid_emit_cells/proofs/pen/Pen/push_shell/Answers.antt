use Rattle.std.proofs.Common.{◌≡◌, false, List, [], length, get_or, flat_map, sym, ◌∙◌, ap, subst, arith}
use Rattle.lid_base.specs.Lists.{Among}
use Rattle.lid_base.proofs.Lists.{among_at}
use Rattle.lid_design.specs.declared.FlatLatch.{FlatLatch}
use Rattle.lid_design.specs.declared.FlatCover.{FlatCover}
use Rattle.lid_emit_circuit.specs.Lists.{latch_wires, cover_wires}
use Rattle.lid_emit_cells.proofs.Drafting.{next_item}
use Rattle.lid_emit_cells.proofs.pen.Pen.push_shell.Goals as goal

pub push_state-requires-clause-there : goal.push_state-requires-clause-there
push_state-requires-clause-there c =
    subst (λ (xs : List FlatLatch). Among (get_or c.as_slice-latch-items.result.now c.loop-latch.latch-index (record { input = 0; out = 0; init = false })) xs) c.as_slice-latch-items.ensures
    (among_at c.as_slice-latch-items.result.now c.loop-latch.latch-index (record { input = 0; out = 0; init = false }) c.loop-latch-test.true)

pub push_logic-requires-clause-there : goal.push_logic-requires-clause-there
push_logic-requires-clause-there c =
    subst (λ (xs : List FlatCover). Among c.c-item.result xs) c.as_slice-c-items.ensures
    (subst (λ (x : FlatCover). Among x c.as_slice-c-items.result.now) (sym c.c-item.is) (among_at c.as_slice-c-items.result.now c.loop-c.c-index c.c-item.result c.loop-c-test.true))

pub loop-latch-preserved : goal.loop-latch-preserved
loop-latch-preserved c = λ q is.
    let latches = c.args.shell.now.flat.latches in
    let same : c.as_slice-latch-items.result.now ≡ latches = c.as_slice-latch-items.ensures in
    let d : FlatLatch = record { input = 0; out = 0; init = false } in
    next_item q c.args.self.now (latch_wires c.args.v) latches c.loop-latch.latch-index d (get_or c.as_slice-latch-items.result.now c.loop-latch.latch-index d) [] c.loop-latch.self c.push_state.new.self
    (omega (arith, c.loop-latch-test.true, ap length same)) (ap (λ (xs : List FlatLatch). get_or xs c.loop-latch.latch-index d) same) (c.loop-latch.invariant q is) (c.in_ok-push_state.ensures q is)

pub loop-c-preserved : goal.loop-c-preserved
loop-c-preserved c = λ q is.
    let covers = c.args.shell.now.flat.covers in
    let same : c.as_slice-c-items.result.now ≡ covers = c.as_slice-c-items.ensures in
    let x : FlatCover = c.c-item.result in
    next_item q c.args.self.now (cover_wires q c.args.v) covers c.loop-c.c-index x x (flat_map (latch_wires c.args.v) c.args.shell.now.flat.latches) c.loop-c.self c.push_logic.new.self
    (omega (arith, c.loop-c-test.true, ap length same)) (c.c-item.is ∙ ap (λ (xs : List FlatCover). get_or xs c.loop-c.c-index x) same) (c.loop-c.invariant q is) (c.in_ok-push_logic.ensures q is)
