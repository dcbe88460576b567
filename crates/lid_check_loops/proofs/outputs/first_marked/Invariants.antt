use Rattle.std.proofs.Common.{◌≡◌, ◌<◌, ℕ, List, false, Some, slice_get}
use Rattle.lid_check_loops.specs.Pearls.{is_marked}
use Rattle.lid_check_loops.proofs.outputs.first_marked.Given as goal

abbrev pub invariant-loop-i : goal.invariant-loop-i
invariant-loop-i l =
    (j : ℕ) (name : List ℕ) → j < l.i → slice_get l.names j ≡ Some name → is_marked l.survey l.pearl l.marks name ≡ false
