use Rattle.std.proofs.Common.{◌≡◌, ◌++◌, flat_map, take}
use Rattle.lid_emit_circuit.specs.Plans.{CircuitPlan}
use Rattle.lid_emit_circuit.specs.Lists.{latch_wires, cover_wires}
use Rattle.lid_emit_cells.specs.Drafts.{with_wires}
use Rattle.lid_emit_cells.specs.Matches.{IsPlanShell}
use Rattle.lid_emit_cells.proofs.pen.Pen.push_shell.Given as goal

abbrev pub invariant-loop-latch : goal.invariant-loop-latch
invariant-loop-latch l = ((q : CircuitPlan) → IsPlanShell q l.fn.v l.shell → l.self ≡ with_wires q l.fn.self (flat_map (latch_wires l.fn.v) (take l.latch-index l.shell.flat.latches)))

abbrev pub invariant-loop-c : goal.invariant-loop-c
invariant-loop-c l = ((q : CircuitPlan) → IsPlanShell q l.fn.v l.shell → l.self ≡ with_wires q l.fn.self (flat_map (latch_wires l.fn.v) l.shell.flat.latches ++ flat_map (cover_wires q l.fn.v) (take l.c-index l.shell.flat.covers)))
