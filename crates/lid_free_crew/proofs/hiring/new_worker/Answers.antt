use Rattle.std.proofs.Common.{◌≡◌, ℕ, ◌==◌, ◌&&◌, nat_lt, List, length, sym, ◌∙◌, ap}
use Rattle.lid_station.specs.declared.looks.End.{End}
use Rattle.lid_board.specs.Owners.{start_ends}
use Rattle.lid_board.specs.Parting.{is_chosen}
use Rattle.lid_free_crew.specs.Shares.{holder}
use Rattle.lid_free_crew.proofs.Choosing.{owned, share_given, given_more}
use Rattle.lid_free_crew.proofs.hiring.new_worker.Goals as goal

chosen : (c : goal.After-as_slice) (e : ℕ) → is_chosen c.as_slice.result.now e ≡ (nat_lt e (length c.args.owners.now) && holder c.args.workers c.args.owners.now e == c.args.number)
chosen c e = ap (λ (l : List End). is_chosen l e) c.as_slice.ensures.value ∙ c.in_ok-ends.ensures e

pub split-requires-clause-owned : goal.split-requires-clause-owned
split-requires-clause-owned c = owned c.args.owners.now c.args.workers c.args.number (start_ends c.args.board.now) c.as_slice.result.now c.requires.many c.requires.unseen (chosen c) c.args.keeper.now c.requires.given c.requires.there
