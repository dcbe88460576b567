use Rattle.std.proofs.Common.{◌≡◌, ◌+◌, ◌++◌, drop, map}
use Rattle.lid_check_elab.proofs.template.shift_all.Given as goal

abbrev pub invariant-loop-number : goal.invariant-loop-number
invariant-loop-number l =
    l.shifted.items ++ map (λ n. l.start + n) (drop l.number-index l.numbers) ≡ map (λ n. l.start + n) l.numbers
