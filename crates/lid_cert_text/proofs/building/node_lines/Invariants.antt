use Rattle.std.proofs.Common.{◌≡◌, ◌++◌, take, drop}
use Rattle.lid_cert_text.specs.Texts.{node_lines}
use Rattle.lid_cert_text.proofs.building.node_lines.Given as goal

abbrev pub invariant-loop-at : goal.invariant-loop-at
invariant-loop-at l = node_lines l.lines ≡ take l.at l.lines ++ node_lines (drop l.at l.lines)
