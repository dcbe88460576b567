use Rattle.std.proofs.Common.{◌≡◌, ℕ, ◌+◌, [], ◌++◌, sym, ◌∙◌, ap, arith}
use Rattle.std.proofs.lemmas.List.{append-nil}
use Rattle.lid_base.specs.Each.{from_each}
use Rattle.lid_emit_circuit.specs.Wires.{place, moved}
use Rattle.lid_emit_cells.specs.Drafts.{with_wires}
use Rattle.lid_emit_cells.proofs.Drafting.{no_wires, next_wire}
use Rattle.lid_emit_cells.proofs.pen.Pen.push_bit.Goals as goal

pub loop-i-init : goal.loop-i-init
loop-i-init c = λ q is. no_wires q c.args.self.now

pub loop-i-preserved : goal.loop-i-preserved
loop-i-preserved c = λ q is.
    let number : c.loop-i.i ≡ 0 + c.loop-i.i = omega arith in
    next_wire q c.args.self.now [] (λ i. place c.args.s i c.args.j) 0 c.loop-i.i c.loop-i.i c.loop-i.self c.push_place.new.self number (c.loop-i.invariant q is) (c.in_ok-push_place.ensures q is)

pub loop-k-init : goal.loop-k-init
loop-k-init c = λ q is.
    let many : c.loop-i.i ≡ c.args.station.now.capacity + 1 = omega (arith, c.loop-i.auto.i-end, c.loop-i-test.false) in
    c.loop-i.invariant q is
    ∙ ap (λ (n : ℕ). with_wires q c.args.self.now (from_each (λ i. place c.args.s i c.args.j) 0 n)) many
    ∙ ap (with_wires q c.args.self.now) (sym (append-nil (from_each (λ i. place c.args.s i c.args.j) 0 (c.args.station.now.capacity + 1))))

pub loop-k-preserved : goal.loop-k-preserved
loop-k-preserved c = λ q is.
    let number : c.loop-k.k ≡ 0 + c.loop-k.k = omega arith in
    next_wire q c.args.self.now (from_each (λ i. place c.args.s i c.args.j) 0 (c.args.station.now.capacity + 1)) (λ i. moved c.args.s i c.args.j) 0 c.loop-k.k c.loop-k.k c.loop-k.self c.push_moved.new.self number (c.loop-k.invariant q is)
    (c.in_ok-push_moved.ensures q is)

pub returns : goal.returns
returns c = λ q is.
    let many : c.loop-k.k ≡ c.args.station.now.capacity = omega (arith, c.loop-k.auto.k-end, c.loop-k-test.false) in
    c.loop-k.invariant q is
    ∙ ap (λ (n : ℕ). with_wires q c.args.self.now (from_each (λ i. place c.args.s i c.args.j) 0 (c.args.station.now.capacity + 1) ++ from_each (λ i. moved c.args.s i c.args.j) 0 n)) many
    ∙ ap (λ (n : ℕ). with_wires q c.args.self.now (from_each (λ i. place c.args.s i c.args.j) 0 (n + 1) ++ from_each (λ i. moved c.args.s i c.args.j) 0 n)) (sym is.capacity)
