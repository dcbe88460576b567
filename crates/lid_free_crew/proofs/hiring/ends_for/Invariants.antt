use Rattle.std.specs.Prelude.{◌≡◌, ℕ, ◌==◌, ◌&&◌, nat_lt}
use Rattle.lid_board.specs.Parting.{is_chosen}
use Rattle.lid_free_crew.specs.Shares.{holder}
use Rattle.lid_free_crew.proofs.hiring.ends_for.Given as goal

abbrev pub invariant-loop-end : goal.invariant-loop-end
invariant-loop-end l = (end : ℕ) → is_chosen l.ends.items end ≡ (nat_lt end l.end && holder l.workers l.owners end == l.number)
