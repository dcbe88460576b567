use Rattle.std.proofs.Common.{◌≡◌, nat_eq, length}
use Rattle.std.specs.Cmp.Lexicographic.{pointwise}
use Rattle.lid_texts.proofs.line.same_names.Given as goal

abbrev pub invariant-loop-some_left : goal.invariant-loop-some_left
invariant-loop-some_left l = pointwise (pointwise nat_eq) l.some_left l.others_left ≡ pointwise (pointwise nat_eq) l.fn.some l.fn.others

abbrev pub decreases-loop-some_left : goal.decreases-loop-some_left
decreases-loop-some_left l = length l.some_left
