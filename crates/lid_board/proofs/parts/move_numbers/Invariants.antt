use Rattle.std.proofs.Common.{◌≡◌, ℕ, cond, take, get_or, None}
use Rattle.lid_board.specs.Parting.{is_chosen}
use Rattle.lid_board.proofs.parts.move_numbers.Given as goal

-- the numbers of the ends so far have moved
abbrev pub invariant-loop-end : goal.invariant-loop-end
invariant-loop-end l = record {
  from : (k : ℕ) → get_or l.from k None ≡ cond (is_chosen (take l.end-index l.ends) k) None (get_or l.fn.from k None);
  into : (k : ℕ) → get_or l.into k None ≡ cond (is_chosen (take l.end-index l.ends) k) (get_or l.fn.from k None) None;
}
