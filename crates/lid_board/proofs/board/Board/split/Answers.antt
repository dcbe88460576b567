use Rattle.std.proofs.Common.{rules, ℕ, cond, List, None, get_or, sym, ◌∙◌, ap, subst}
use Rattle.std.specs.Prelude.{Option}
use Rattle.lid_board.specs.Owners.{start_ends}
use Rattle.lid_board.specs.Parting.{is_chosen}
use Rattle.lid_board.specs.Relation.{AreWithin}
use Rattle.lid_board.specs.Ties.{IsTied}
use Rattle.lid_board.specs.Views.{EndTable, at}
use Rattle.lid_board.proofs.Numbers.{written_at, written_long, tied_left, tied_right, within_left, within_right}
use Rattle.lid_board.proofs.Parting.{at_left, at_right}
use Rattle.lid_board.proofs.board.Board.split.Goals as goal

pub invariant_of-hand : goal.invariant_of-hand
invariant_of-hand c = record {
  tied =
      subst (IsTied _) (sym c.split_as-seat.ensures.left)
      (tied_left c.args.hand.now.ends.items _ c.args.hand.now.seat.me.0.ends (is_chosen c.args.ends.now) c.args.hand.now.tied
      (λ k. written_at c.move_numbers.new.from c.args.hand.now.ends.items c.args.hand.now.ends.len k _ (search rules) (search rules) (c.move_numbers.ensures.from k ∙ ap (λ (xs : List (Option ℕ)). cond (is_chosen c.args.ends.now k) None (get_or xs k None)) c.as_mut_slice.ensures.value)));
  early = (c.split_as-seat.ensures.early c.args.hand.now.early).0;
  no_slot = c.split_as-seat.ensures.seat.1 ∙ c.args.hand.now.no_slot;
}

pub invariant_of-result : goal.invariant_of-result
invariant_of-result c = record {
  tied =
      subst (IsTied _) (sym c.split_as-seat.ensures.right)
      (tied_right c.args.hand.now.ends.items _ c.args.hand.now.seat.me.0.ends (is_chosen c.args.ends.now) c.args.hand.now.tied
      (λ k. written_at c.move_numbers.new.into c.in_ok-numbers.numbers.items c.in_ok-numbers.numbers.len k _ (search rules) (search rules) (c.move_numbers.ensures.into k ∙ ap (λ (xs : List (Option ℕ)). cond (is_chosen c.args.ends.now k) (get_or xs k None) None) c.as_mut_slice.ensures.value)));
  early = (c.split_as-seat.ensures.early c.args.hand.now.early).1;
  no_slot = c.split_as-seat.ensures.seat.3;
}

pub returns-clause-kept : goal.returns-clause-kept
returns-clause-kept c end = ap (λ (e : EndTable). at e end) c.split_as-seat.ensures.left ∙ at_left (is_chosen c.args.ends.now) c.args.hand.now.seat.me.0.ends end

pub returns-clause-given : goal.returns-clause-given
returns-clause-given c end = ap (λ (e : EndTable). at e end) c.split_as-seat.ensures.right ∙ at_right (is_chosen c.args.ends.now) c.args.hand.now.seat.me.0.ends end

pub returns-clause-of : goal.returns-clause-of
returns-clause-of c = record {
  table = c.split_as-seat.ensures.seat.0 ∙ c.requires.of.table;
  room = written_long c.move_numbers.new.from c.args.hand.now.ends.items c.args.hand.now.ends.len (search rules) (search rules) ∙ c.requires.of.room;
  within =
      subst (AreWithin (start_ends c.args.self.now)) (sym c.split_as-seat.ensures.left)
      (within_left (start_ends c.args.self.now) c.args.hand.now.seat.me.0.ends (is_chosen c.args.ends.now) c.requires.of.within);
}

pub returns-clause-new_of : goal.returns-clause-new_of
returns-clause-new_of c = record {
  table = c.split_as-seat.ensures.seat.2 ∙ c.requires.of.table;
  room = written_long c.move_numbers.new.into c.in_ok-numbers.numbers.items c.in_ok-numbers.numbers.len (search rules) (search rules) ∙ search rules ∙ c.requires.of.room;
  within =
      subst (AreWithin (start_ends c.args.self.now)) (sym c.split_as-seat.ensures.right)
      (within_right (start_ends c.args.self.now) c.args.hand.now.seat.me.0.ends (is_chosen c.args.ends.now) c.requires.of.within);
}
