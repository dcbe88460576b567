use Rattle.std.proofs.Common.{◌≡◌, ◌-◌, ◌++◌, ◌∷◌, [], map, take}
use Rattle.lid_check_parts.proofs.inner.push_counted.Given as goal

abbrev pub invariant-loop-number : goal.invariant-loop-number
invariant-loop-number l = l.all ≡ l.fn.all ++ map (λ a. a - l.part.start) (take l.number-index l.numbers) ∷ []
