use Rattle.std.proofs.Common.{◌≡◌, ◌==◌, ◌++◌, map, length}
use Rattle.std.specs.List.{concat}
use Rattle.lid_texts.proofs.line.row_bits.Given as goal

abbrev pub invariant-loop-rest : goal.invariant-loop-rest
invariant-loop-rest l = l.bits.items ++ map (λ b. b == 49) (concat l.rest) ≡ map (λ b. b == 49) (concat l.fn.line.words)

abbrev pub decreases-loop-rest : goal.decreases-loop-rest
decreases-loop-rest l = length l.rest
