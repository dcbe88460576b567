use Rattle.std.proofs.Common.{◌≡◌, ℕ, cond, nat_lt, get_or, None}
use Rattle.lid_board.specs.Parting.{or_else}
use Rattle.lid_board.proofs.parts.merge_numbers.Given as goal

-- the numbers below have been taken
abbrev pub invariant-loop-number : goal.invariant-loop-number
invariant-loop-number l = (k : ℕ) → get_or l.into k None ≡ cond (nat_lt k l.number) (or_else (get_or l.fn.into k None) (get_or l.from k None)) (get_or l.fn.into k None)
