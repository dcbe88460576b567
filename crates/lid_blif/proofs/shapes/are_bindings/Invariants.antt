use Rattle.std.proofs.Common.{◌≡◌, drop}
use Rattle.std.specs.List.{list_all}
use Rattle.lid_blif.specs.Words.{is_binding}
use Rattle.lid_blif.proofs.shapes.are_bindings.Given as goal

abbrev pub invariant-loop-at : goal.invariant-loop-at
invariant-loop-at l = list_all is_binding (drop l.at l.words) ≡ list_all is_binding l.words
